use Rattle.open_choices.proofs.ChoiceOrder.{are_rising, same_choices}
use Rattle.open_choices.proofs.sorting.in_order.Goals as goal

pub returns-clause-rising : goal.returns-clause-rising
returns-clause-rising c =
    are_rising c.args.choices.items c.sort.new.self.items c.dedup.new.self.items c.in_ok-sort.ensures.permutation
    c.in_ok-sort.ensures.sorted c.dedup.ensures.filtered

pub returns-clause-same : goal.returns-clause-same
returns-clause-same c =
    same_choices c.args.choices.items c.sort.new.self.items c.dedup.new.self.items c.in_ok-sort.ensures.permutation
    c.in_ok-sort.ensures.sorted c.dedup.ensures.filtered
