use Rattle.certificate_words.proofs.NextLines.{above_more}
use Rattle.certificate_words.proofs.firsts.word_length.Goals as goal

pub loop-at-preserved : goal.loop-at-preserved
loop-at-preserved c =
    above_more c.args.bytes.now c.loop-at.at c.loop-at-test.true c.loop-at.invariant c.if-byte-le32.false
