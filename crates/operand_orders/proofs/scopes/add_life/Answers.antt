use Rattle.access_races.proofs.Joins.{pushed}
use Rattle.access_races.proofs.Cells.{added}
use Rattle.operand_orders.proofs.scopes.add_life.Goals as goal

pub returns : goal.returns
returns c =
    added c.args.lists.now.items c.make_room.new.lists.items c.args.life.object c.in_ok-make_room.ensures.room
    c.in_ok-make_room.ensures.same c.index_mut.result.now c.push.new.self c.index_mut.ensures.value c.args.life
    (pushed c.index_mut.result.now.items c.push.new.self.items c.args.life c.in_ok-push.ensures.items)
