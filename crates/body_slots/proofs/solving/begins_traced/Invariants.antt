use Rattle.std.proofs.Common.{ℕ, ◌<◌, get_or}
use Rattle.std.specs.FinMap.{get}
use Rattle.sparse_rows.specs.Traces.{IsFreshAt, IsPendingAt}
use Rattle.row_checks.specs.TracedCells.{may_copy, may_be_fresh, may_pend}
use Rattle.body_slots.proofs.solving.begins_traced.Given as goal

abbrev pub invariant-loop-cell : goal.invariant-loop-cell
invariant-loop-cell l =
    let s = l.system.slots in
    let t = l.system.entry in
    (j : ℕ) → j < l.cell-index
    → IsFreshAt (may_copy s.traces) (may_be_fresh s.traces) (may_pend s.traces) (get_or s.cells j 0)
    (get t.cells (get_or s.cells j 0))
    × IsPendingAt (may_copy s.traces) (may_be_fresh s.traces) (may_pend s.traces) (get_or s.cells j 0)
    (get t.cells (get_or s.cells j 0))
