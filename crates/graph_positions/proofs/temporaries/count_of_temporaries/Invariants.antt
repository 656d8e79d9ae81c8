use Rattle.std.proofs.Common.{take}
use Rattle.graph_positions.specs.Positions.{IsWide}
use Rattle.graph_positions.proofs.temporaries.count_of_temporaries.Given as goal

abbrev pub invariant-loop-number : goal.invariant-loop-number
invariant-loop-number l = IsWide (take l.number l.graph.edges.items) l.count
