use Rattle.tm_typed.specs.TypedTrees.{as_rvalues}
use Rattle.body_builder.specs.Fragments.{tree_in, so_far}
use Rattle.body_builder.specs.reading.Expressions.{values_at}
use Rattle.body_builder.proofs.Arguments.{HasLeft}
use Rattle.body_builder.proofs.expressions.+value.Given as goal

abbrev pub invariant-build_values-loop-argument : goal.invariant-build_values-loop-argument
invariant-build_values-loop-argument l =
    HasLeft (tree_in l.here.laid.now) l.here.depth l.here.path l.arguments l.argument-index l.temps.items
    (so_far (tree_in l.here.laid.now) l.to)
    (values_at (tree_in l.here.laid.now) l.here.depth l.here.path (as_rvalues l.arguments)
    (so_far (tree_in l.here.laid.now) l.initial.to))
