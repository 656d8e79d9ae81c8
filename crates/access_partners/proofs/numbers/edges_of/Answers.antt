use Rattle.access_partners.specs.reading.Accesses.{IsEdgeOf}
use Rattle.access_partners.proofs.Lists.{numbers_listed}
use Rattle.access_partners.proofs.numbers.edges_of.Goals as goal

pub returns : goal.returns
returns c =
    numbers_listed c.in_ok-edges.edges.items c.sort_unstable.new.self.items c.dedup.new.self.items
    c.sort_unstable.ensures.permutation c.sort_unstable.ensures.sorted c.dedup.ensures.filtered
    (IsEdgeOf c.args.sites.now) c.in_ok-edges.ensures
