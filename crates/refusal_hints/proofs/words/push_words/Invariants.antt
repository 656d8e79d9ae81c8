use Rattle.std.proofs.Common.{◌≡◌, ◌++◌, length}
use Rattle.refusal_hints.specs.Words.{words_of}
use Rattle.refusal_hints.specs.reading.Seen.{words_seen}
use Rattle.refusal_hints.proofs.words.push_words.Given as goal

-- the words so far are pushed, and those that are left come behind them
abbrev pub invariant-loop-rest : goal.invariant-loop-rest
invariant-loop-rest l =
    words_seen l.fn.words.items ++ words_of l.fn.text ≡ words_seen l.words.items ++ words_of l.rest

abbrev pub decreases-loop-rest : goal.decreases-loop-rest
decreases-loop-rest l = length l.rest
