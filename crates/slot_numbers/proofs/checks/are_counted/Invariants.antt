use Rattle.std.proofs.Common.{◌≡◌, ℕ, ◌<◌, true}
use Rattle.cell_placings.specs.CellLists.{is_in, cells_at}
use Rattle.slot_numbers.proofs.checks.are_counted.Given as goal

abbrev pub invariant-loop-k : goal.invariant-loop-k
invariant-loop-k l = (j x : ℕ) → j < l.k → is_in (cells_at l.sets j) x ≡ true → is_in l.cells x ≡ true
