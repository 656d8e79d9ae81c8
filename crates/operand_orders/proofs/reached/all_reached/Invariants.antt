use Rattle.std.proofs.Common.{◌↔◌, ◌<◌}
use Rattle.std.specs.Prelude.{Contains}
use Rattle.operand_orders.specs.declared.pairs.Pair.{Pair as APair}
use Rattle.operand_orders.specs.reading.Touches.{Reaches}
use Rattle.operand_orders.specs.reading.Views.{solved}
use Rattle.operand_orders.proofs.reached.all_reached.Given as goal

abbrev pub invariant-loop-edge : goal.invariant-loop-edge
invariant-loop-edge l = (p : APair) → Contains l.pairs.items p
    ↔ ((p.first < l.edge) × Reaches (solved l.view) l.stores p.first p.second)
