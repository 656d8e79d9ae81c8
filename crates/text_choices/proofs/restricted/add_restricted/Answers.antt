use Rattle.std.proofs.Common.{arith}
use Rattle.text_choices.proofs.TokenLemmas.{restricts_more, restricts_all}
use Rattle.text_choices.proofs.restricted.add_restricted.Goals as goal

pub loop-token-preserved : goal.loop-token-preserved
loop-token-preserved c =
    restricts_more c.args.tokens.now c.loop-token.token-index c.args.choices.now.items c.loop-token.choices.items c.add_restrict.new.choices.items
    c.loop-token-test.true c.loop-token.invariant c.in_ok-add_restrict.ensures

pub returns : goal.returns
returns c =
    restricts_all c.args.tokens.now c.loop-token.token-index c.args.choices.now.items c.loop-token.choices.items (omega arith) c.loop-token.invariant
