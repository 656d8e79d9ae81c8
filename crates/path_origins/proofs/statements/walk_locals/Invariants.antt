use Rattle.std.proofs.Common.{map, drop}
use Rattle.tm_typed.specs.TypedStatements.{local_tree}
use Rattle.tm_laid.specs.Layouts.{laid_tree}
use Rattle.path_origins.specs.Opens.{is_among}
use Rattle.path_origins.specs.Shown.{sizes_in}
use Rattle.path_origins.specs.Statements.{all_declared}
use Rattle.path_origins.proofs.Leaving.{IsYet}
use Rattle.path_origins.proofs.statements.walk_locals.Given as goal

-- the local objects that are left, behind those that are noted
abbrev pub invariant-loop-local : goal.invariant-loop-local
invariant-loop-local l =
    IsYet l.initial.to l.to
    (all_declared (laid_tree l.here.laid.now) (is_among l.here.opens.now) (sizes_in l.here.sizes.now) l.here.path
    (map local_tree (drop l.local-index l.locals)))
    (all_declared (laid_tree l.here.laid.now) (is_among l.here.opens.now) (sizes_in l.here.sizes.now) l.here.path
    (map local_tree l.locals))
