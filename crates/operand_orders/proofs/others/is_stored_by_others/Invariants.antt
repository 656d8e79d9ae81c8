use Rattle.std.proofs.Common.{◌≡◌, ◌≢◌, ◌<◌, ℕ, get_or}
use Rattle.tm_lattice.specs.Tables.{Table}
use Rattle.pointer_dom.specs.Values.{Values}
use Rattle.operand_orders.specs.reading.Touches.{LeavesIn}
use Rattle.operand_orders.proofs.others.is_stored_by_others.Given as goal

abbrev pub invariant-loop-index : goal.invariant-loop-index
invariant-loop-index l = (k : ℕ) (e : ℕ × Table (Table Values)) → k < l.index → get_or l.tasks k e ≡ e
    → (e.0 ≢ l.fn.view.number) × LeavesIn e.1 l.cell → ⊥
