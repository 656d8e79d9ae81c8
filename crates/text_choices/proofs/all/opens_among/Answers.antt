use Rattle.std.proofs.Common.{[], arith}
use Rattle.text_choices.specs.reading.Tokens.{open_at}
use Rattle.text_choices.proofs.Additions.{Adds-none_below}
use Rattle.text_choices.proofs.TokenLemmas.{StandsAt, opens_more, opens_all}
use Rattle.text_choices.proofs.all.opens_among.Goals as goal

pub loop-token-init : goal.loop-token-init
loop-token-init c =
    rw c.new-places.ensures.items (Adds-none_below [] (λ k place. StandsAt c.args.tokens.now k (open_at place)))

pub loop-token-preserved : goal.loop-token-preserved
loop-token-preserved c =
    opens_more c.args.tokens.now c.loop-token.token-index [] c.loop-token.places.items c.add_open.new.places.items c.loop-token-test.true c.loop-token.invariant c.in_ok-add_open.ensures

pub returns : goal.returns
returns c = opens_all c.args.tokens.now c.loop-token.token-index c.loop-token.places.items (omega arith) c.loop-token.invariant
