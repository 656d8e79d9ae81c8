use Rattle.std.proofs.Common.{◌≡◌, ◌++◌, map, drop}
use Rattle.body_builder.specs.lowering.Built.{nodes_by}
use Rattle.statement_builder.specs.Waiting.{way_of, waiting}
use Rattle.statement_builder.specs.reading.Statements.{is_way}
use Rattle.statement_builder.proofs.loops.push_nodes.Given as goal

abbrev pub invariant-loop-one : goal.invariant-loop-one
invariant-loop-one l =
    l.nodes.items ++ nodes_by (is_way (way_of l.way)) (map waiting (drop l.one-index l.pending))
    ≡ l.initial.nodes.items ++ nodes_by (is_way (way_of l.way)) (map waiting l.pending)
