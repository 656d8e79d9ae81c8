use Rattle.std.proofs.Common.{take}
use Rattle.graph_facts.specs.reading.Heads.{AreLastBack}
use Rattle.graph_facts.proofs.regions.last_back.Given as goal

abbrev pub invariant-loop-number : goal.invariant-loop-number
invariant-loop-number l = AreLastBack (take l.number l.graph.edges.items) l.graph.nodes l.last.items
