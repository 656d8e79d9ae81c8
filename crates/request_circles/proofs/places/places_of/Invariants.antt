use Rattle.std.proofs.Common.{◌↔◌}
use Rattle.std.specs.Prelude.{Contains}
use Rattle.tm_terms.specs.declared.places.Place.{Place as APlace}
use Rattle.request_circles.proofs.Ordered.{IsPlaceBelow}
use Rattle.request_circles.proofs.places.places_of.Given as goal

abbrev pub invariant-loop-number : goal.invariant-loop-number
invariant-loop-number l = (q : APlace) → Contains l.places.items q
    ↔ IsPlaceBelow l.requests l.numbers.marks.items l.number q
