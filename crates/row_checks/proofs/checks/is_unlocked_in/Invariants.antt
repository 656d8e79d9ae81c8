use Rattle.std.proofs.Common.{◌≡◌, true}
use Rattle.std.specs.Prelude.{◌||◌, slice_index_or}
use Rattle.cell_placings.specs.CellLists.{is_in}
use Rattle.row_checks.specs.Passing.{all_below, is_kept}
use Rattle.row_checks.proofs.checks.is_unlocked_in.Given as goal

abbrev pub invariant-loop-cell : goal.invariant-loop-cell
invariant-loop-cell l =
    all_below (λ x. is_kept l.mutex (slice_index_or l.traces.pending.items x 0) || is_in l.set x) l.cell ≡ true
