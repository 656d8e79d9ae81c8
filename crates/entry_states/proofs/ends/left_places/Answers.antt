use Rattle.flow_graph.specs.declared.operations.Operation.TheVariants as Op
use Rattle.entry_states.proofs.Marks.{none_marked, next_marked, all_marked}
use Rattle.entry_states.proofs.ends.left_places.Goals as goal

pub loop-edge-init : goal.loop-edge-init
loop-edge-init c = none_marked c.args.graph.now.nodes c.in_ok-left.left.items (c.in_ok-left.ensures.items_if_clones_equal (λ y e. e))

pub loop-edge-preserved : goal.loop-edge-preserved
loop-edge-preserved c =
    next_marked c.args.graph.now.edges.items c.deref-edge-items.result.now c.loop-edge.edge-index (record { from = 0; to = 0; op = Op.Skip })
    c.args.graph.now.nodes c.loop-edge.left.items c.mark.new.left.items c.deref-edge-items.ensures.value
    c.loop-edge-test.true c.mark.ensures
    c.loop-edge.invariant

pub returns : goal.returns
returns c =
    all_marked c.args.graph.now.edges.items c.deref-edge-items.result.now c.loop-edge.edge-index c.args.graph.now.nodes c.loop-edge.left.items
    c.deref-edge-items.ensures.value c.loop-edge-test.false c.loop-edge.invariant
