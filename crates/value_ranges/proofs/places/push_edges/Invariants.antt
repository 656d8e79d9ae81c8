use Rattle.value_ranges.specs.reading.Reached.{AddsPlaces, IsOfEdges}
use Rattle.value_ranges.proofs.places.push_edges.Given as goal

abbrev pub invariant-loop-edge : goal.invariant-loop-edge
invariant-loop-edge l = AddsPlaces (λ place. IsOfEdges l.edges l.edge place) l.initial.places.items l.places.items
