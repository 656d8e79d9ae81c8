use Rattle.std.proofs.Common.{arith}
use Rattle.statement_builder.specs.declared.passed.Pending.{Pending}
use Rattle.statement_builder.specs.declared.passed.Way.TheVariants as Ways
use Rattle.statement_builder.specs.Waiting.{way_of}
use Rattle.statement_builder.specs.reading.Statements.{is_way}
use Rattle.statement_builder.proofs.Waiting.{nodes_more, nodes_last}
use Rattle.statement_builder.proofs.loops.push_nodes.Goals as goal

pub loop-one-preserved : goal.loop-one-preserved
loop-one-preserved c =
    let d : Pending = record { node = 0; way = Ways.Break } in
    nodes_more (is_way (way_of c.args.way)) c.args.pending.now c.loop-one.one-index d c.loop-one.nodes.items
    c.push_node.new.nodes.items _ (omega arith) c.in_ok-push_node.ensures c.loop-one.invariant

pub returns : goal.returns
returns c =
    nodes_last (is_way (way_of c.args.way)) c.args.pending.now c.loop-one.one-index c.loop-one.nodes.items _
    (omega arith) c.loop-one.invariant
