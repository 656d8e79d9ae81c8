use Rattle.std.proofs.Common.{take}
use Rattle.text_choices.specs.Choices.{Adds, OfKind}
use Rattle.text_choices.specs.declared.kinds.Kind.TheVariants as Kinds
use Rattle.operand_orders.specs.reading.Operands.{IsOfOperands}
use Rattle.operand_orders.specs.reading.Views.{solved}
use Rattle.operand_orders.proofs.order.add_operands.Given as goal

abbrev pub invariant-loop-pair : goal.invariant-loop-pair
invariant-loop-pair l = Adds l.initial.choices.items l.choices.items
    (OfKind Kinds.Order (IsOfOperands (solved l.view) (take l.pair-index l.operands)))
