use Rattle.std.proofs.Common.{arith}
use Rattle.mutex_configs.specs.Nodes.{all_copies}
use Rattle.mutex_configs.proofs.CopyLists.{all_within, edge_done}
use Rattle.mutex_configs.proofs.copies.copies.Goals as goal

pub push_all-requires-clause-within : goal.push_all-requires-clause-within
push_all-requires-clause-within c =
    all_within c.args.graph.now.edges.items c.args.graph.now.edges.items c.index-edge.result.now c.loop-number.number c.args.graph.now.nodes
    c.index-edge.result.now c.args.nodes.now.keys c.as_slice.result.now c.in_ok-at.at.items c.as_slice.ensures.keys c.in_ok-at.ensures
    (let l = c.loop-number-test.true in let n = c.len-number-end.ensures in omega (arith, l, n)) c.index-edge.ensures c.requires.graph.from c.index.result.now c.index.ensures c.deref.result.now c.deref.ensures.value

pub loop-number-preserved : goal.loop-number-preserved
loop-number-preserved c =
    edge_done c.args.graph.now.edges.items c.args.graph.now.edges.items c.index-edge.result.now c.loop-number.number c.args.graph.now.nodes
    c.index-edge.result.now c.args.nodes.now.keys c.as_slice.result.now c.in_ok-at.at.items c.as_slice.ensures.keys c.in_ok-at.ensures
    (let l = c.loop-number-test.true in let n = c.len-number-end.ensures in omega (arith, l, n)) c.index-edge.ensures c.requires.graph.from c.index.result.now c.index.ensures c.deref.result.now c.deref.ensures.value
    c.loop-number.copies.items c.push_all.new.copies.items
    (all_copies c.args.nodes.now.keys 0 c.args.graph.now.edges.items) c.in_ok-push_all.ensures c.loop-number.invariant
