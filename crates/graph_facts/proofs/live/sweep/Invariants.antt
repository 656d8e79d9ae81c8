use Rattle.graph_facts.specs.Lists.{numbers}
use Rattle.graph_facts.specs.reading.Live.{Sweeps}
use Rattle.graph_facts.proofs.live.sweep.Given as goal

abbrev pub invariant-loop-number : goal.invariant-loop-number
invariant-loop-number l = Sweeps l.graph.edges.items l.graph.nodes l.number l.more (numbers l.initial.lists.items) (numbers l.lists.items)
