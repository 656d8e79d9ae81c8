use Rattle.std.proofs.Common.{◌≡◌, take}
use Rattle.std.specs.List.{filter}
use Rattle.cell_placings.specs.CellLists.{is_in}
use Rattle.slot_numbers.proofs.own_cells.counted_cells.Given as goal

abbrev pub invariant-loop-cell : goal.invariant-loop-cell
invariant-loop-cell l = l.counted.items ≡ filter (is_in l.cells) (take l.cell-index l.listed)
