use Rattle.std.proofs.Common.{◌≡◌, take, drop}
use Rattle.certificate_words.specs.Lines.{words_of}
use Rattle.certificate_parts.specs.Fronts.{numbered_words}
use Rattle.certificate_parts.proofs.words.behind_numbers.Given as goal

-- the numbers so far, and the words behind them
abbrev pub invariant-loop-at : goal.invariant-loop-at
invariant-loop-at l = words_of l.words ≡ numbered_words (take l.at l.numbers) (words_of (drop l.at l.words))
