use Rattle.std.proofs.Common.{take}
use Rattle.text_choices.specs.Choices.{Adds}
use Rattle.operand_orders.specs.reading.Views.{solved}
use Rattle.open_choices.specs.reading.Found.{IsOfSome, IsFallen}
use Rattle.open_choices.proofs.unset.add_falls.Given as goal

abbrev pub invariant-loop-fall : goal.invariant-loop-fall
invariant-loop-fall l =
    Adds l.initial.choices.items l.choices.items (IsOfSome (IsFallen (solved l.view)) (take l.fall-index l.fall-items))
