use Rattle.std.proofs.Common.{◌≡◌, take, map}
use Rattle.tm_typed.specs.TypedStatements.{given_tree}
use Rattle.tm_typed.specs.Declarations.{static_cell_of}
use Rattle.c_declarations.proofs.linkage.static_cells.Given as goal

-- the values of the cells so far
abbrev pub invariant-cells : goal.invariant-cells
invariant-cells l = l.values.items ≡ map (static_cell_of l.state) (map given_tree (take l.cell-index l.cells))
