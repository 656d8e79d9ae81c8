use Rattle.std.proofs.Common.{◌≡◌, ◌++◌, take}
use Rattle.certificate_words.specs.Lines.{words_of}
use Rattle.certificate_words.proofs.NextLines.{joined}
use Rattle.certificate_words.proofs.lines.push_line.Given as goal

-- the words so far
abbrev pub invariant-loop-at : goal.invariant-loop-at
invariant-loop-at l = l.text.items ≡ l.fn.text.items ++ joined (words_of (take l.at l.words))
