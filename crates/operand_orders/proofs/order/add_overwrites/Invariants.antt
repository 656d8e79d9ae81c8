use Rattle.std.proofs.Common.{take}
use Rattle.text_choices.specs.Choices.{Adds, OfKind}
use Rattle.text_choices.specs.declared.kinds.Kind.TheVariants as Kinds
use Rattle.operand_orders.specs.reading.Operands.{IsOfOverwrites}
use Rattle.operand_orders.proofs.order.add_overwrites.Given as goal

abbrev pub invariant-loop-overwrite : goal.invariant-loop-overwrite
invariant-loop-overwrite l = Adds l.initial.choices.items l.choices.items
    (OfKind Kinds.Order (IsOfOverwrites l.touches (take l.overwrite-index l.overwrites)))
