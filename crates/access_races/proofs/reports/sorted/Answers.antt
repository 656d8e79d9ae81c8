use Rattle.access_races.proofs.Sorting.{strictly_sorted, same_alarms}
use Rattle.access_races.proofs.reports.sorted.Goals as goal

pub returns-clause-sorted : goal.returns-clause-sorted
returns-clause-sorted c =
    strictly_sorted c.args.alarms.items c.sort.new.self.items c.dedup.new.self.items c.in_ok-sort.ensures.permutation
    c.in_ok-sort.ensures.sorted c.dedup.ensures.filtered

pub returns-clause-same : goal.returns-clause-same
returns-clause-same c =
    same_alarms c.args.alarms.items c.sort.new.self.items c.dedup.new.self.items c.in_ok-sort.ensures.permutation
    c.in_ok-sort.ensures.sorted c.dedup.ensures.filtered
