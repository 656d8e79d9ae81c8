use Rattle.std.proofs.Common.{◌≡◌, ◌<◌, ℕ, get_or}
use Rattle.operand_orders.specs.declared.pairs.Pair.{Pair as APair}
use Rattle.operand_orders.specs.Reached.{IsStatic}
use Rattle.operand_orders.specs.reading.Views.{solved}
use Rattle.operand_orders.proofs.touches.are_static.Given as goal

abbrev pub invariant-loop-pair : goal.invariant-loop-pair
invariant-loop-pair l = (k : ℕ) (p : APair) → k < l.pair-index → get_or l.pairs k p ≡ p
    → IsStatic (solved l.view) p.second → ⊥
