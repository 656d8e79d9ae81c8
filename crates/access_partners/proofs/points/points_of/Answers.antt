use Rattle.access_partners.proofs.Racing.{points_are}
use Rattle.access_partners.proofs.points.points_of.Goals as goal

pub returns : goal.returns
returns c =
    points_are c.in_ok-points.points.items c.sort_unstable.new.self.items c.dedup.new.self.items
    c.sort_unstable.ensures.permutation c.sort_unstable.ensures.sorted c.dedup.ensures.filtered c.args.sites.now
    c.in_ok-points.ensures
