use Rattle.std.proofs.Common.{◌≡◌, ◌↔◌, ◌⊎◌, ℕ, take}
use Rattle.std.specs.Prelude.{Contains}
use Rattle.operand_orders.specs.declared.pairs.Pair.{Pair as APair}
use Rattle.access_races.specs.reading.Ways.{HasOne}
use Rattle.operand_orders.specs.reading.Touches.{HasTarget}
use Rattle.operand_orders.specs.reading.Views.{solved}
use Rattle.operand_orders.proofs.reached.add_targets.Given as goal

abbrev pub invariant-loop-copy : goal.invariant-loop-copy
invariant-loop-copy l = (p : APair) → Contains l.pairs.items p ↔ (Contains l.initial.pairs.items p ⊎ ((p.first ≡ l.edge)
    × HasOne (λ (k : ℕ). HasTarget (solved l.fn.view) l.access p.second k) (take l.copy-index l.copy-items)))
