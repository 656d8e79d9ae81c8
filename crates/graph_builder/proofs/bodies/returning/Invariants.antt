use Rattle.std.proofs.Common.{◌≡◌, ◌++◌, drop, map}
use Rattle.body_builder.specs.lowering.Built.{is_return, nodes_by}
use Rattle.statement_builder.specs.Waiting.{waiting}
use Rattle.graph_builder.proofs.bodies.returning.Given as goal

abbrev pub invariant-loop-one : goal.invariant-loop-one
invariant-loop-one l =
    l.nodes.items ++ nodes_by is_return (map waiting (drop l.one-index l.pending))
    ≡ nodes_by is_return (map waiting l.pending)
