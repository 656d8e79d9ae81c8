use Rattle.std.proofs.Common.{◌≡◌, ◌∙◌, [], length, sym, subst, arith}
use Rattle.std.proofs.lemmas.List.{get_or-map}
use Rattle.flow_graph.specs.declared.graphs.Graph.{Graph}
use Rattle.flow_graph.specs.Graphs.{Edges}
use Rattle.value_ranges.specs.reading.Reached.{AddsPlaces, IsOfEdges, IsOfGraphs, edges_at}
use Rattle.value_ranges.proofs.Adding.{adds_nothing, adds_more, adds_all}
use Rattle.value_ranges.proofs.places.places_in.Goals as goal

pub loop-number-init : goal.loop-number-init
loop-number-init c =
    subst (λ xs. AddsPlaces (λ q. IsOfGraphs c.args.graphs.now 0 q) [] xs) (sym c.new-places.ensures.items)
    (adds_nothing (λ q t. (let g = edges_at c.args.graphs.now t in IsOfEdges g (length g) q)) [])

pub loop-number-preserved : goal.loop-number-preserved
loop-number-preserved c =
    let graphs = c.args.graphs.now in
    let i = c.loop-number.number in
    let e = get_or-map (λ (g : Graph). g.edges.items) graphs i c.index-graphs-number.result [] c.loop-number-test.true
    ∙ sym c.deref.ensures.value in
    adds_more (λ q t. (let g = edges_at graphs t in IsOfEdges g (length g) q)) i []
    c.loop-number.places.items c.push_edges.new.places.items c.loop-number.invariant
    (subst (λ (es : Edges). AddsPlaces (λ q. IsOfEdges es (length es) q) c.loop-number.places.items
    c.push_edges.new.places.items) (sym e) c.in_ok-push_edges.ensures)

pub returns : goal.returns
returns c = λ place.
    let graphs = c.args.graphs.now in
    let end : c.loop-number.number ≡ length graphs = omega arith in
    adds_all (λ q. IsOfGraphs graphs (length graphs) q) c.loop-number.places.items
    (subst (λ i. AddsPlaces (λ q. IsOfGraphs graphs i q) [] c.loop-number.places.items) end
    c.loop-number.invariant) place
