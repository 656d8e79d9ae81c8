use Rattle.std.proofs.Common.{map}
use Rattle.tm_typed.specs.TypedStatements.{given_tree}
use Rattle.body_builder.specs.Fragments.{tree_in, so_far}
use Rattle.statement_builder.specs.reading.Locals.{cells_in}
use Rattle.statement_builder.proofs.Cells.{HasCells}
use Rattle.statement_builder.proofs.locals.build_cells.Given as goal

-- the cells that are left, behind those that are stored
abbrev pub invariant-loop-number : goal.invariant-loop-number
invariant-loop-number l =
    HasCells (tree_in l.here.laid.now) l.here.depth l.here.path l.object l.place l.number-end l.number
    (map given_tree l.rest) (so_far (tree_in l.here.laid.now) l.to)
    (cells_in (tree_in l.here.laid.now) l.here.depth l.here.path l.object l.place l.number-end 0
    (map given_tree l.given) (so_far (tree_in l.here.laid.now) l.initial.to))
