use Rattle.std.proofs.Common.{◌≡◌, drop}
use Rattle.std.specs.List.{list_all}
use Rattle.cell_placings.specs.CellLists.{is_in}
use Rattle.row_checks.proofs.checks.are_in.Given as goal

abbrev pub invariant-loop-cell : goal.invariant-loop-cell
invariant-loop-cell l = list_all (is_in l.set) (drop l.cell-index l.cells) ≡ list_all (is_in l.set) l.cells
