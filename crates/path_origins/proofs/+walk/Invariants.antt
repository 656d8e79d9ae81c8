use Rattle.body_builder.specs.concrete_steps.NextAction.{function_at}
use Rattle.path_origins.proofs.+walk.Given as goal
use Rattle.path_origins.proofs.Calls.{AreLeft}
use Rattle.path_origins.specs.Opens.{is_among}
use Rattle.path_origins.specs.Shown.{shown, sizes_in}
use Rattle.tm_laid.specs.Layouts.{laid_tree}

-- the arguments that are left, behind those that are noted
abbrev pub invariant-expressions::walk_arguments-loop-number : goal.invariant-expressions::walk_arguments-loop-number
invariant-expressions::walk_arguments-loop-number l =
    AreLeft (laid_tree l.here.laid.now) (is_among l.here.opens.now) (sizes_in l.here.sizes.now) l.here.path l.place
    (function_at (laid_tree l.here.laid.now) l.path).parameters l.arguments l.number (shown l.initial.to) (shown l.to)
