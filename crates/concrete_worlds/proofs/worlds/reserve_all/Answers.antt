use Rattle.std.proofs.Common.{arith, ◌∙◌}
use Rattle.concrete_worlds.proofs.Lists.{same_at, room_more, room_all}
use Rattle.concrete_worlds.proofs.worlds.reserve_all.Goals as goal

pub loop-list-preserved : goal.loop-list-preserved
loop-list-preserved c = (
  same_at c.loop-list.lists c.loop-list.list-index _ c.reserve_one.new.list c.reserve_one.ensures.same ∙ c.loop-list.invariant.0,
  room_more c.loop-list.lists c.loop-list.list-index c.reserve_one.new.list c.in-Ok.ensures.room c.loop-list.invariant.1,
)

pub returns-in-Err-clause-same : goal.returns-in-Err-clause-same
returns-in-Err-clause-same c =
    same_at c.loop-list.lists c.loop-list.list-index _ c.reserve_one.new.list c.reserve_one.ensures.same ∙ c.loop-list.invariant.0

pub returns-clause-room : goal.returns-clause-room
returns-clause-room c =
    room_all c.loop-list.lists c.loop-list.list-index (let h = c.loop-list-test.false in let e = c.loop-list.auto.lists in omega (arith, h, e)) c.loop-list.invariant.1
