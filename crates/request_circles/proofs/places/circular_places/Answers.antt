use Rattle.std.proofs.Common.{◌↔◌}
use Rattle.std.specs.Prelude.{Contains}
use Rattle.tm_terms.specs.declared.places.Place.{Place as APlace}
use Rattle.place_lists.specs.Order.{AreInOrder}
use Rattle.request_circles.specs.Requests.{AreCircularPlaces}
use Rattle.request_circles.proofs.Numbered.{places_are}
use Rattle.request_circles.proofs.Ordered.{both_facts}
use Rattle.request_circles.proofs.places.circular_places.Goals as goal

pub returns : goal.returns
returns c =
    let requests = c.args.requests.now in
    let numbers = c.in_ok-numbers.numbers.marks.items in
    let places = c.in_ok-places.places.items in
    both_facts (λ ordered. AreInOrder ordered.items)
    (λ ordered. (q : APlace) → Contains ordered.items q ↔ Contains places q)
    (λ ordered. AreCircularPlaces (Contains requests) ordered.items)
    (λ ordered sorted same. record {
      sorted = sorted;
      exact = λ q.
          let listed = c.in_ok-places.ensures q in
          let circular = places_are requests numbers c.in_ok-numbers.ensures q in (
            λ h. circular.0 (listed.0 ((same q).0 h)),
            λ h. (same q).1 (listed.1 (circular.1 h)),
          );
    }) c.in_order.result c.in_order.ensures.sorted c.in_order.ensures.same
