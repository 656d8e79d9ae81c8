use Rattle.std.proofs.Common.{take}
use Rattle.text_choices.specs.Choices.{Adds}
use Rattle.operand_orders.specs.reading.Views.{solved}
use Rattle.open_choices.specs.reading.Found.{IsOfSome, IsBegun}
use Rattle.open_choices.proofs.beginnings.add_beginnings.Given as goal

abbrev pub invariant-loop-life : goal.invariant-loop-life
invariant-loop-life l =
    Adds l.initial.choices.items l.choices.items (IsOfSome (IsBegun (solved l.view)) (take l.life-index l.life-items))
