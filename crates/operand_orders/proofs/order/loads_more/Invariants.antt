use Rattle.std.proofs.Common.{◌≡◌, ◌<◌, ℕ, get_or}
use Rattle.operand_orders.specs.declared.pairs.Pair.{Pair as APair}
use Rattle.operand_orders.specs.reading.Operands.{HasMore}
use Rattle.operand_orders.specs.reading.Views.{solved}
use Rattle.operand_orders.proofs.order.loads_more.Given as goal

abbrev pub invariant-loop-load : goal.invariant-loop-load
invariant-loop-load l = (k : ℕ) (p : APair) → k < l.load-index → get_or l.load-items k p ≡ p
    → HasMore (solved l.view) l.first.first l.second.first p.second → ⊥
