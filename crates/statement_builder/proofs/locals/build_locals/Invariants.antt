use Rattle.std.proofs.Common.{map}
use Rattle.tm_typed.specs.TypedStatements.{local_tree}
use Rattle.body_builder.specs.Fragments.{tree_in, so_far}
use Rattle.statement_builder.specs.reading.Locals.{locals_in}
use Rattle.statement_builder.proofs.Cells.{HasLocals}
use Rattle.statement_builder.proofs.locals.build_locals.Given as goal

-- the local objects that are left, behind those that are built
abbrev pub invariant-loop-local : goal.invariant-loop-local
invariant-loop-local l =
    HasLocals (tree_in l.here.laid.now) l.here.depth l.here.path l.locals l.local-index
    (so_far (tree_in l.here.laid.now) l.to)
    (locals_in (tree_in l.here.laid.now) l.here.depth l.here.path (map local_tree l.locals)
    (so_far (tree_in l.here.laid.now) l.initial.to))
