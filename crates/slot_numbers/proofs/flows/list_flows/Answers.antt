use Rattle.std.proofs.Common.{◌∙◌, ap, rules}
use Rattle.cell_placings.specs.CellLists.{is_in, cells_at}
use Rattle.table_covers.specs.Systems.{to_of}
use Rattle.slot_numbers.proofs.Flowing.{flows_begun, flows_more, to_read}
use Rattle.slot_numbers.proofs.flows.list_flows.Goals as goal

pub loop-edge-init : goal.loop-edge-init
loop-edge-init c =
    flows_begun c.args.graph.now c.args.placing.now c.args.cells.now c.new-flows.result.items c.new-flows.ensures.items

pub loop-edge-preserved : goal.loop-edge-preserved
loop-edge-preserved c =
    let links = c.args.graph.now.links.items in
    let edge = c.loop-edge.edge in
    flows_more c.args.graph.now c.args.placing.now c.args.cells.now edge c.loop-edge.flows.items c.owned-own.result.now
    (λ x. ap (λ ys. is_in ys x)
    (c.owned-own.ensures ∙ ap (cells_at c.args.variables.now.owned) (to_read links edge c.index.result.now (search rules) c.index.ensures))
    ∙ c.requires.variables.owned (to_of links edge) x (c.requires.ends.to_node edge (search rules)))
    c.loop-edge.invariant c.push_flows.new.flows.items c.in_ok-push_flows.ensures
