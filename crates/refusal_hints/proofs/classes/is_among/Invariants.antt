use Rattle.std.proofs.Common.{◌≡◌, drop}
use Rattle.refusal_hints.specs.Classes.{is_among}
use Rattle.refusal_hints.specs.reading.Seen.{words_seen}
use Rattle.refusal_hints.proofs.classes.is_among.Given as goal

abbrev pub invariant-loop-other : goal.invariant-loop-other
invariant-loop-other l =
    is_among (words_seen l.words) l.word ≡ is_among (words_seen (drop l.other-index l.words)) l.word
