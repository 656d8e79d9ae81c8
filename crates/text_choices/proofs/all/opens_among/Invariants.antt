use Rattle.std.proofs.Common.{[]}
use Rattle.text_choices.specs.reading.Added.{AddsTo}
use Rattle.text_choices.proofs.TokenLemmas.{OpensBelow}
use Rattle.text_choices.proofs.all.opens_among.Given as goal

abbrev pub invariant-loop-token : goal.invariant-loop-token
invariant-loop-token l = AddsTo [] l.places.items (OpensBelow l.tokens l.token-index)
