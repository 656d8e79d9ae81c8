use Rattle.std.proofs.Common.{◌≡◌, ◌↔◌, ◌⊎◌, take}
use Rattle.std.specs.Prelude.{Contains}
use Rattle.operand_orders.specs.declared.pairs.Pair.{Pair as APair}
use Rattle.operand_orders.proofs.reached.add_cells.Given as goal

abbrev pub invariant-loop-cell : goal.invariant-loop-cell
invariant-loop-cell l = (p : APair) → Contains l.pairs.items p
    ↔ (Contains l.initial.pairs.items p ⊎ ((p.first ≡ l.edge) × Contains (take l.cell-index l.cells) p.second))
