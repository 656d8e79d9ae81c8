use Rattle.std.proofs.Common.{take}
use Rattle.slot_numbers.specs.reading.Building.{AreNoted}
use Rattle.slot_numbers.proofs.readers.note_all.Given as goal

abbrev pub invariant-loop-source : goal.invariant-loop-source
invariant-loop-source l = AreNoted l.number (take l.source-index l.sources) l.initial.lists l.lists
