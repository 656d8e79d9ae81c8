use Rattle.std.proofs.Common.{◌≡◌, drop}
use Rattle.refusal_hints.specs.Patterns.{fits}
use Rattle.refusal_hints.specs.reading.Seen.{words_seen}
use Rattle.refusal_hints.proofs.patterns.fits.Given as goal

abbrev pub invariant-loop-i : goal.invariant-loop-i
invariant-loop-i l =
    fits (words_seen l.context) (words_seen l.pattern) (words_seen l.words)
    ≡ fits (words_seen l.context) (words_seen (drop l.i l.pattern)) (words_seen (drop l.i l.words))
