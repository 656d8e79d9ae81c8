use Rattle.std.proofs.Common.{◌+◌, ◌-◌}
use Rattle.mutex_configs.specs.reading.Searches.{IsSearch}
use Rattle.mutex_configs.proofs.reached.search.Given as goal

abbrev pub invariant-loop-done : goal.invariant-loop-done
invariant-loop-done l = IsSearch l.graph.edges.items l.done l.nodes.keys

abbrev pub decreases-loop-done : goal.decreases-loop-done
decreases-loop-done l = (l.most + 1) - l.done
