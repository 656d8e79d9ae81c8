use Rattle.std.proofs.lemmas.Result.{on_ok_weaker}
use Rattle.access_races.proofs.Cells.{added}
use Rattle.access_races.proofs.ways.add_way.Goals as goal

pub returns : goal.returns
returns c =
    on_ok_weaker c.add_to.result
    (added c.args.ways.now.items c.make_room.new.lists.items c.args.access.cell c.in_ok-make_room.ensures.room
    c.in_ok-make_room.ensures.same c.index_mut.result.now c.add_to.new.list c.index_mut.ensures.value
    c.args.access.way) c.add_to.ensures
