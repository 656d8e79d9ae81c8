use Rattle.std.proofs.Common.{map}
use Rattle.tm_typed.specs.TypedStatements.{given_tree}
use Rattle.tm_laid.specs.Layouts.{laid_tree}
use Rattle.path_origins.specs.Opens.{is_among}
use Rattle.path_origins.specs.Noted.{nothing}
use Rattle.path_origins.specs.Shown.{sizes_in}
use Rattle.path_origins.specs.Statements.{cells_stored}
use Rattle.path_origins.proofs.Cells.{HasCells}
use Rattle.path_origins.proofs.statements.walk_cells.Given as goal

-- the cells that are left, behind those that are stored
abbrev pub invariant-loop-number : goal.invariant-loop-number
invariant-loop-number l =
    HasCells (laid_tree l.here.laid.now) (is_among l.here.opens.now) (sizes_in l.here.sizes.now) l.here.path
    l.at.object l.at.of l.at.place l.number-end l.number (map given_tree l.rest)
    (cells_stored (laid_tree l.here.laid.now) (is_among l.here.opens.now) (sizes_in l.here.sizes.now) l.here.path
    l.at.object l.at.of l.at.place l.number-end 0 (map given_tree l.given) nothing) l.initial.to l.to
