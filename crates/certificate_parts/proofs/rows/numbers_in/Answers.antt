use Rattle.certificate_parts.proofs.NumbersRead.{numbers_more}
use Rattle.certificate_parts.proofs.rows.numbers_in.Goals as goal

pub loop-key-preserved : goal.loop-key-preserved
loop-key-preserved c =
    numbers_more c.args.letters.now c.requires.letters c.args.allowed.now c.args.keys.now c.requires.distinct
    c.loop-key.key-index c.args.ahead.now c.loop-key.ahead c.number_in.new.ahead c.loop-key.numbers.items
    c.push.new.self.items c.in_ok-number.number c.loop-key-test.true c.loop-key.invariant c.in_ok-number.ensures
    c.in_ok-push.ensures.items
