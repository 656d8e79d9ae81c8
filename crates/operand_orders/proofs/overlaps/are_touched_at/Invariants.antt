use Rattle.std.proofs.Common.{◌≡◌, ◌<◌, ℕ, get_or}
use Rattle.operand_orders.specs.declared.pairs.Pair.{Pair as APair}
use Rattle.operand_orders.specs.reading.Touches.{HasAccess}
use Rattle.operand_orders.proofs.overlaps.are_touched_at.Given as goal

abbrev pub invariant-loop-pair : goal.invariant-loop-pair
invariant-loop-pair l =
    (k : ℕ) (p : APair) → k < l.pair-index → get_or l.pairs k p ≡ p → HasAccess l.accesses l.edge p.second → ⊥
