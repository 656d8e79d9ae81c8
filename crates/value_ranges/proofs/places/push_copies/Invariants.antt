use Rattle.value_ranges.specs.reading.Reached.{AddsPlaces, IsOfCopies}
use Rattle.value_ranges.proofs.places.push_copies.Given as goal

abbrev pub invariant-loop-copy : goal.invariant-loop-copy
invariant-loop-copy l =
    AddsPlaces (λ place. IsOfCopies l.edges l.copies l.table l.copy place) l.initial.places.items l.places.items
