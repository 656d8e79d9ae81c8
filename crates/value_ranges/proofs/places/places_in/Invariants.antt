use Rattle.std.proofs.Common.{[]}
use Rattle.value_ranges.specs.reading.Reached.{AddsPlaces, IsOfGraphs}
use Rattle.value_ranges.proofs.places.places_in.Given as goal

abbrev pub invariant-loop-number : goal.invariant-loop-number
invariant-loop-number l = AddsPlaces (λ place. IsOfGraphs l.graphs l.number place) [] l.places.items
