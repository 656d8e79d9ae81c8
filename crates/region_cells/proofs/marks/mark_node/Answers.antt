use Rattle.std.proofs.Common.{ℕ, List, arith}
use Rattle.flow_graph.specs.Graphs.{Edges}
use Rattle.region_cells.proofs.Nodes.{leaves_at, slots_more, slots_all}
use Rattle.region_cells.proofs.marks.mark_node.Goals as goal

pub index-requires : goal.index-requires
index-requires c =
    let l = (leaves_at c.args.graph.now.edges.items c.args.node c.args.leaving.now c.loop-number.number-index c.requires.leaving c.loop-number-test.true).within in
    let d = c.args.graph.now.edges.ok.0 in
    omega (arith, l, d)

pub loop-number-preserved : goal.loop-number-preserved
loop-number-preserved c =
    let g : Edges = c.args.graph.now.edges.items in
    let ns : List ℕ = c.args.leaving.now in
    let i : ℕ = c.loop-number.number-index in
    slots_more g c.args.objects ns i c.index.result.now c.slot_of.result c.args.marks.now.items c.loop-number.marks.items c.mark.new.marks.items c.index.ensures
    (leaves_at g c.args.node ns i c.requires.leaving c.loop-number-test.true).within c.slot_of.ensures c.loop-number.invariant c.mark.ensures

pub returns : goal.returns
returns c =
    slots_all c.args.graph.now.edges.items c.args.objects c.args.node c.args.leaving.now c.loop-number.number-index c.args.marks.now.items c.loop-number.marks.items c.requires.leaving c.loop-number-test.false
    c.loop-number.auto.number-index-end c.loop-number.invariant
