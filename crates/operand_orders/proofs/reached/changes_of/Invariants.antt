use Rattle.std.proofs.Common.{◌↔◌, take}
use Rattle.std.specs.Prelude.{Contains}
use Rattle.operand_orders.specs.declared.pairs.Pair.{Pair as APair}
use Rattle.operand_orders.specs.Order.{IsInitialising}
use Rattle.operand_orders.specs.reading.Views.{solved}
use Rattle.operand_orders.proofs.reached.changes_of.Given as goal

abbrev pub invariant-loop-store : goal.invariant-loop-store
invariant-loop-store l = (p : APair) → Contains l.changes.items p
    ↔ (Contains (take l.store-index l.stores) p × (IsInitialising (solved l.view) p.first → ⊥))
