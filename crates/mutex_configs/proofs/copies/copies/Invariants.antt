use Rattle.std.proofs.Common.{◌≡◌, ◌++◌, drop}
use Rattle.mutex_configs.specs.Nodes.{all_copies}
use Rattle.mutex_configs.proofs.copies.copies.Given as goal

abbrev pub invariant-loop-number : goal.invariant-loop-number
invariant-loop-number l =
    l.copies.items ++ all_copies l.nodes.keys l.number (drop l.number l.graph.edges.items) ≡ all_copies l.nodes.keys 0 l.graph.edges.items
