use Rattle.std.proofs.lemmas.List.{take_more}
use Rattle.certificate_words.proofs.NextLines.{joined_at, line_at}
use Rattle.certificate_words.proofs.lines.push_line.Goals as goal

pub loop-at-preserved : goal.loop-at-preserved
loop-at-preserved c =
    joined_at c.args.words.now c.loop-at.at _ c.args.text.now.items c.loop-at.text.items c.push_spaced.new.text.items
    c.loop-at-test.true (take_more c.args.words.now c.loop-at.at _ c.loop-at-test.true) c.loop-at.invariant
    c.in_ok-push_spaced.ensures

pub returns : goal.returns
returns c =
    line_at c.args.words.now c.loop-at.at c.args.text.now.items c.loop-at.text.items c.push.new.self.items
    c.loop-at-test.false c.loop-at.invariant c.in_ok-push.ensures.items
