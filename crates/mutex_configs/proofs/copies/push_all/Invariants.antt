use Rattle.std.proofs.Common.{◌≡◌, ◌++◌, drop}
use Rattle.mutex_configs.specs.reading.Copying.{copies_at}
use Rattle.mutex_configs.proofs.copies.push_all.Given as goal

abbrev pub invariant-loop-node : goal.invariant-loop-node
invariant-loop-node l =
    l.copies.items ++ copies_at l.nodes.keys l.number l.edge (drop l.node-index l.from)
    ≡ l.initial.copies.items ++ copies_at l.nodes.keys l.number l.edge l.from
