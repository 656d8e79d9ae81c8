use Rattle.std.proofs.Common.{arith}
use Rattle.region_cells.proofs.Nodes.{nodes_none, nodes_more}
use Rattle.region_cells.proofs.marks.mark_region.Goals as goal

pub loop-node-init : goal.loop-node-init
loop-node-init c = nodes_none c.args.graph.now.edges.items c.args.objects c.args.head c.args.marks.now.items

pub loop-node-preserved : goal.loop-node-preserved
loop-node-preserved c =
    nodes_more c.args.graph.now.edges.items c.args.objects c.args.head c.loop-node.node c.args.marks.now.items c.loop-node.marks.items c.mark_node.new.marks.items
    (let a = c.loop-node.auto in omega (arith, a)) c.loop-node.invariant c.mark_node.ensures
