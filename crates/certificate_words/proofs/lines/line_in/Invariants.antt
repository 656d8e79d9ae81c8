use Rattle.std.proofs.Common.{length}
use Rattle.certificate_words.specs.Lines.{words_of}
use Rattle.certificate_words.proofs.NextLines.{IsBegun}
use Rattle.certificate_words.proofs.lines.line_in.Given as goal

-- the words so far, and what stands behind them
abbrev pub invariant-words : goal.invariant-words
invariant-words l = IsBegun l.text (words_of l.words.items) l.rest

abbrev pub decreases-words : goal.decreases-words
decreases-words l = length l.rest
