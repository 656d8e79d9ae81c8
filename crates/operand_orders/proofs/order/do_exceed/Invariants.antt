use Rattle.std.proofs.Common.{◌≡◌, ◌<◌, ℕ, get_or}
use Rattle.operand_orders.specs.reading.Operands.{Exceeds}
use Rattle.operand_orders.specs.reading.Views.{solved}
use Rattle.operand_orders.proofs.order.do_exceed.Given as goal

abbrev pub invariant-loop-copy : goal.invariant-loop-copy
invariant-loop-copy l = (k copy : ℕ) → k < l.copy-index → get_or l.copies k copy ≡ copy
    → Exceeds (solved l.view) l.cell l.joined copy → ⊥
