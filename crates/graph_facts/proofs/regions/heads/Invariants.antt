use Rattle.graph_facts.proofs.HeadSteps.{AreHeadsBelow}
use Rattle.graph_facts.proofs.regions.heads.Given as goal

abbrev pub invariant-loop-node : goal.invariant-loop-node
invariant-loop-node l = AreHeadsBelow l.graph.edges.items l.node l.heads.items
