use Rattle.access_partners.specs.reading.Accesses.{IsCellOf}
use Rattle.access_partners.proofs.Lists.{numbers_listed}
use Rattle.access_partners.proofs.numbers.cells_of.Goals as goal

pub returns : goal.returns
returns c =
    numbers_listed c.in_ok-cells.cells.items c.sort_unstable.new.self.items c.dedup.new.self.items
    c.sort_unstable.ensures.permutation c.sort_unstable.ensures.sorted c.dedup.ensures.filtered
    (IsCellOf c.args.sites.now) c.in_ok-cells.ensures
