use Rattle.access_races.proofs.Cells.{added}
use Rattle.access_races.proofs.Joins.{pushed}
use Rattle.access_partners.proofs.objects.push_site.Goals as goal

pub returns-clause-added : goal.returns-clause-added
returns-clause-added c =
    added c.args.lists.now.items c.make_room.new.lists.items c.args.object c.in_ok-make_room.ensures.room
    c.in_ok-make_room.ensures.same c.index_mut.result.now c.push.new.self c.index_mut.ensures.value c.args.site
    (pushed c.index_mut.result.now.items c.push.new.self.items c.args.site c.in_ok-push.ensures.items)
