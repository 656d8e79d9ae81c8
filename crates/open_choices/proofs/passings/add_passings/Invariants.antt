use Rattle.std.proofs.Common.{take}
use Rattle.text_choices.specs.Choices.{Adds}
use Rattle.open_choices.specs.reading.Found.{IsOfSome, IsPassed}
use Rattle.open_choices.proofs.passings.add_passings.Given as goal

abbrev pub invariant-loop-passing : goal.invariant-loop-passing
invariant-loop-passing l =
    Adds l.initial.choices.items l.choices.items (IsOfSome IsPassed (take l.passing-index l.passing-items))
