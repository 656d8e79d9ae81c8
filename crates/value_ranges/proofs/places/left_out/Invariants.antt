use Rattle.std.proofs.Common.{[]}
use Rattle.value_ranges.specs.reading.Notes.{Below}
use Rattle.value_ranges.specs.reading.Reached.{AddsPlaces, IsLeft}
use Rattle.value_ranges.proofs.places.left_out.Given as goal

abbrev pub invariant-loop-index : goal.invariant-loop-index
invariant-loop-index l = AddsPlaces (λ place. Below (IsLeft l.places l.others.items place) l.index) [] l.left.items
