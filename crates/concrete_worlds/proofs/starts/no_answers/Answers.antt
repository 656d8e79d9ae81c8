use Rattle.concrete_worlds.proofs.Lists.{no_answers_more}
use Rattle.concrete_worlds.proofs.starts.no_answers.Goals as goal

pub loop-standing-preserved : goal.loop-standing-preserved
loop-standing-preserved c =
    no_answers_more c.loop-standing.answers.items c.push.new.self.items _ c.args.standings.now c.loop-standing._standing-index c.loop-standing-test.true
    c.in_ok-push.ensures.items c.new.ensures.items c.loop-standing.invariant
