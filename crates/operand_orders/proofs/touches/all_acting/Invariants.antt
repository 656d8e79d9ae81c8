use Rattle.std.proofs.Common.{ℕ}
use Rattle.operand_orders.specs.Reached.{operation_at}
use Rattle.operand_orders.specs.Order.{IsActing}
use Rattle.operand_orders.specs.reading.Views.{solved}
use Rattle.operand_orders.proofs.Touching.{AreMarkedBelow}
use Rattle.operand_orders.proofs.touches.all_acting.Given as goal

abbrev pub invariant-loop-edge : goal.invariant-loop-edge
invariant-loop-edge l =
    AreMarkedBelow (λ (edge : ℕ). IsActing (operation_at (solved l.view) edge)) l.edge l.marks.items
