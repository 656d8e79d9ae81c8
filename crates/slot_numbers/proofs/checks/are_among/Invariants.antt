use Rattle.std.proofs.Common.{◌≡◌, ℕ, ◌<◌, true, get_or}
use Rattle.cell_placings.specs.CellLists.{is_in}
use Rattle.slot_numbers.proofs.checks.are_among.Given as goal

abbrev pub invariant-loop-cell : goal.invariant-loop-cell
invariant-loop-cell l = (k : ℕ) → k < l.cell-index → is_in l.cells (get_or l.listed k 0) ≡ true
