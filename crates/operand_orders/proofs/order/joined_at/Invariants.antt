use Rattle.std.proofs.Common.{take}
use Rattle.operand_orders.specs.reading.Operands.{IsJoinOf}
use Rattle.operand_orders.specs.reading.Views.{solved, IsStateIn}
use Rattle.operand_orders.proofs.order.joined_at.Given as goal

abbrev pub invariant-loop-copy : goal.invariant-loop-copy
invariant-loop-copy l = IsJoinOf (IsStateIn (solved l.fn.view) (take l.copy-index l.copy-items)) l.cell l.joined
