use Rattle.refusal_hints.proofs.Lasts.{last_fits}
use Rattle.refusal_hints.specs.reading.Seen.{words_seen}
use Rattle.refusal_hints.proofs.patterns.fits_last.Goals as goal

pub returns : goal.returns
returns c =
    last_fits (words_seen c.args.context.now) c.args.pattern.now c.args.words.now c.fits.result
    c.if-words-pattern.false c.fits.ensures
