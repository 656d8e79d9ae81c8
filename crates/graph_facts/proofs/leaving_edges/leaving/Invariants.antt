use Rattle.std.proofs.Common.{take}
use Rattle.graph_facts.specs.Leaving.{AreLeaving}
use Rattle.graph_facts.specs.Lists.{numbers}
use Rattle.graph_facts.proofs.leaving_edges.leaving.Given as goal

abbrev pub invariant-loop-number : goal.invariant-loop-number
invariant-loop-number l = AreLeaving (take l.number l.graph.edges.items) l.graph.nodes (numbers l.leaving.items)
