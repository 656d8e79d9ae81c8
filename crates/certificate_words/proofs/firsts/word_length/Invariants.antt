use Rattle.std.proofs.Common.{take}
use Rattle.certificate_words.specs.reading.Letters.{AreAbove}
use Rattle.certificate_words.proofs.firsts.word_length.Given as goal

abbrev pub invariant-loop-at : goal.invariant-loop-at
invariant-loop-at l = AreAbove (take l.at l.bytes)
