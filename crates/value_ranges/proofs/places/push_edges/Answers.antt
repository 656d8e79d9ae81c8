use Rattle.std.proofs.Common.{◌≡◌, length, subst, arith}
use Rattle.program_reports.specs.post_recheck.task_equations.Bodies.{no_edge}
use Rattle.std.specs.Prelude.{get_or}
use Rattle.value_ranges.specs.Places.{ReachesAt}
use Rattle.value_ranges.specs.reading.Reached.{AddsPlaces, IsOfEdges}
use Rattle.value_ranges.proofs.Adding.{adds_nothing, adds_more}
use Rattle.value_ranges.proofs.places.push_edges.Goals as goal

pub loop-edge-init : goal.loop-edge-init
loop-edge-init c =
    adds_nothing (λ q k. (let e = get_or c.args.edges.now k no_edge in ReachesAt e.op q)) c.args.places.now.items

pub loop-edge-preserved : goal.loop-edge-preserved
loop-edge-preserved c =
    let edges = c.args.edges.now in
    let i = c.loop-edge.edge in
    adds_more (λ q k. (let e = get_or edges k no_edge in ReachesAt e.op q)) i c.args.places.now.items
    c.loop-edge.places.items c.push_place_of.new.places.items c.loop-edge.invariant
    c.in_ok-push_place_of.ensures

pub returns : goal.returns
returns c =
    let end : c.loop-edge.edge ≡ length c.args.edges.now = omega arith in
    subst (λ i. AddsPlaces (λ place. IsOfEdges c.args.edges.now i place) c.args.places.now.items
    c.loop-edge.places.items) end c.loop-edge.invariant
