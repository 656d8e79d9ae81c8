use Rattle.std.proofs.Common.{take}
use Rattle.text_choices.specs.Choices.{Adds, OfKind}
use Rattle.text_choices.specs.declared.kinds.Kind.TheVariants as Kinds
use Rattle.operand_orders.specs.reading.Operands.{IsOfReloads}
use Rattle.operand_orders.proofs.order.add_reloads.Given as goal

abbrev pub invariant-loop-reload : goal.invariant-loop-reload
invariant-loop-reload l = Adds l.initial.choices.items l.choices.items
    (OfKind Kinds.Order (IsOfReloads l.touches (take l.reload-index l.reloads)))
