use Rattle.operand_orders.specs.reading.Touches.{IsSeenAt}
use Rattle.operand_orders.specs.reading.Views.{solved}
use Rattle.operand_orders.proofs.Touching.{AreMarkedBelow}
use Rattle.operand_orders.proofs.touches.all_seen.Given as goal

abbrev pub invariant-loop-edge : goal.invariant-loop-edge
invariant-loop-edge l = AreMarkedBelow (IsSeenAt (solved l.view)) l.edge l.marks.items
