use Rattle.std.proofs.Common.{◌≡◌, None, replicate}
use Rattle.graph_facts.proofs.regions.no_nodes.Given as goal

abbrev pub invariant-loop : goal.invariant-loop
invariant-loop l = l.nodes.items ≡ replicate l.counter None
