use Rattle.replay_runs.proofs.Sets.{is_set}
use Rattle.replay_runs.proofs.places.sorted.Goals as goal

pub returns : goal.returns
returns c =
    is_set c.args.places.items c.sort.new.self.items c.dedup.new.self.items c.in_ok-sort.ensures.permutation c.in_ok-sort.ensures.sorted c.dedup.ensures.filtered
