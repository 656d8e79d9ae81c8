use Rattle.alarm_contexts.proofs.FlawOrder.{are_ordered}
use Rattle.alarm_contexts.proofs.merging.ordered.Goals as goal

pub returns : goal.returns
returns c =
    are_ordered c.args.flaws.items c.sort.new.self.items c.dedup.new.self.items c.in_ok-sort.ensures.permutation
    c.in_ok-sort.ensures.sorted c.dedup.ensures.filtered
