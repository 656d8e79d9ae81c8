use Rattle.std.proofs.Common.{sym, ◌∙◌}
use Rattle.refusal_hints.proofs.Lasts.{ended}
use Rattle.refusal_hints.specs.reading.Seen.{words_seen}
use Rattle.refusal_hints.proofs.patterns.fits.Goals as goal

pub returns-then-words-i : goal.returns-then-words-i
returns-then-words-i c =
    sym (c.loop-i.invariant
    ∙ ended (words_seen c.args.context.now) c.args.pattern.now c.args.words.now c.loop-i.i c.loop-i-test.true
    c.if-words-i.true)
