use Rattle.std.proofs.Common.{take}
use Rattle.open_choices.specs.reading.Found.{AreUninitialised}
use Rattle.open_choices.proofs.unset.are_uninitialised.Given as goal

abbrev pub invariant-loop-life : goal.invariant-loop-life
invariant-loop-life l = AreUninitialised l.edge (take l.life-index l.lives)
