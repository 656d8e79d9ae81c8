use Rattle.std.proofs.Common.{◌≡◌, ◌+◌, true}
use Rattle.cell_placings.specs.CellLists.{is_in}
use Rattle.row_checks.specs.Passing.{all_below}
use Rattle.row_checks.proofs.checks.is_cleared_in.Given as goal

abbrev pub invariant-loop-place : goal.invariant-loop-place
invariant-loop-place l = all_below (λ k. is_in l.touched (l.cleared.first_abstract + k)) l.place ≡ true
