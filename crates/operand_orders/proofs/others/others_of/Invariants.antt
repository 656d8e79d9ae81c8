use Rattle.operand_orders.specs.Order.{IsStoredByOthers}
use Rattle.operand_orders.specs.reading.Views.{solved}
use Rattle.operand_orders.proofs.Touching.{AreMarkedBelow}
use Rattle.operand_orders.proofs.others.others_of.Given as goal

abbrev pub invariant-loop-cell : goal.invariant-loop-cell
invariant-loop-cell l = AreMarkedBelow (IsStoredByOthers (solved l.view)) l.cell l.others.items
