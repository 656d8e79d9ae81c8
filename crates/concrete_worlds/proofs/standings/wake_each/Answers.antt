use Rattle.std.proofs.Common.{arith}
use Rattle.concrete_worlds.specs.reading.Standings.{awake}
use Rattle.concrete_worlds.proofs.Lists.{change_one}
use Rattle.concrete_worlds.proofs.standings.wake_each.Goals as goal

pub loop-standing-preserved : goal.loop-standing-preserved
loop-standing-preserved c =
    change_one (awake c.args.mutex) c.args.standings.now c.loop-standing.standings c.loop-standing.standing-index _ c.awake.result _
    c.loop-standing-test.true (omega arith) c.loop-standing.invariant c.awake.ensures
