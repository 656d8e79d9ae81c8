use Rattle.std.proofs.Common.{◌≡◌, drop}
use Rattle.std.specs.Prelude.{fold}
use Rattle.refusal_hints.specs.Hints.{opening_behind, opening_of}
use Rattle.refusal_hints.specs.reading.Seen.{words_seen}
use Rattle.refusal_hints.proofs.hints.opening_of.Given as goal

abbrev pub invariant-loop-word : goal.invariant-loop-word
invariant-loop-word l =
    opening_of (words_seen l.words) ≡ fold opening_behind l.first (words_seen (drop l.word-index l.words))
