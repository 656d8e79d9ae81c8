use Rattle.temporary_types.proofs.Counting.{IsCounted}
use Rattle.temporary_types.proofs.counts.count_of_temporaries.Given as goal

abbrev pub invariant-loop-number : goal.invariant-loop-number
invariant-loop-number l = IsCounted l.graph.edges.items l.number l.count
