use Rattle.std.proofs.Common.{◌≡◌, replicate}
use Rattle.graph_positions.proofs.temporaries.none_seen.Given as goal

abbrev pub invariant-loop : goal.invariant-loop
invariant-loop l = l.seen.items ≡ replicate l.counter 0
