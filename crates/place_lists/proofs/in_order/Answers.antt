use Rattle.place_lists.proofs.Sorting.{are_in_order, same_places}
use Rattle.place_lists.proofs.in_order.Goals as goal

pub returns-clause-sorted : goal.returns-clause-sorted
returns-clause-sorted c =
    are_in_order c.args.places.items c.sort.new.self.items c.dedup.new.self.items c.in_ok-sort.ensures.permutation
    c.in_ok-sort.ensures.sorted c.dedup.ensures.filtered

pub returns-clause-same : goal.returns-clause-same
returns-clause-same c =
    same_places c.args.places.items c.sort.new.self.items c.dedup.new.self.items c.in_ok-sort.ensures.permutation
    c.in_ok-sort.ensures.sorted c.dedup.ensures.filtered
