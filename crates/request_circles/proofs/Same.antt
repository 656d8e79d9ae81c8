-- Where there are the same requests, the same places are listed, and they are one list; and the same rings are shortest.
use Rattle.std.proofs.Common.{◌≡◌, ◌↔◌, List}
use Rattle.tm_terms.specs.declared.places.Place.{Place}
use Rattle.request_circles.specs.declared.requests.Request.{Request}
use Rattle.request_circles.specs.declared.rings.Ring.{Ring}
use Rattle.request_circles.specs.Requests.{Leads, IsCircularPlace, AreCircularPlaces}
use Rattle.request_circles.specs.Rings.{IsRing, IsShortestRing, ring_places, AreShortestRings}
use Rattle.request_circles.proofs.Chains.{mapped}
use Rattle.request_circles.proofs.Lists.{equal_lists}

place_too : (Is Was : Request → Type 0) → ((r : Request) → Is r → Was r) → (q : Place) → IsCircularPlace Is q
    → IsCircularPlace Was q
place_too Is Was f q h = record {
  request = h.request;
  circular = mapped (Leads Is) (Leads Was)
      (λ x y l. record { one = f x l.one; other = f y l.other; leads = l.leads }) h.request h.request h.circular;
  is = h.is;
}

pub same_requests : (Is Was : Request → Type 0) → ((r : Request) → Is r ↔ Was r) → (places : List Place)
    → AreCircularPlaces Is places → AreCircularPlaces Was places
same_requests Is Was same places h = record {
  sorted = h.sorted;
  exact = λ q. (
    λ c. place_too Is Was (λ r. (same r).0) q ((h.exact q).0 c),
    λ w. (h.exact q).1 (place_too Was Is (λ r. (same r).1) q w),
  );
}

pub one_list : (Is : Request → Type 0) → (one other : List Place) → AreCircularPlaces Is one
    → AreCircularPlaces Is other → one ≡ other
one_list Is one other h k =
    equal_lists one other h.sorted k.sorted (λ q c. (k.exact q).1 ((h.exact q).0 c))
    (λ q c. (h.exact q).1 ((k.exact q).0 c))

-- ## Rings

module _ (Is Was : Request → Type 0) (same : (r : Request) → Is r ↔ Was r) where
  ring_before : (ring : List Request) → IsRing Was ring → IsRing Is ring
  ring_before ring h = record {
    first = h.first;
    others = h.others;
    are = h.are;
    leads = h.leads;
    each = λ r c. (same r).1 (h.each r c);
  }

  shortest_too : (place : Place) (ring : List Request) → IsShortestRing Is place ring → IsShortestRing Was place ring
  shortest_too place ring h =
      let is : IsRing Is ring = h.is in
      record {
        is = record {
          first = is.first;
          others = is.others;
          are = is.are;
          leads = is.leads;
          each = λ r c. (same r).0 (is.each r c);
        };
        begins = h.begins;
        least = λ other r o c at. h.least other r (ring_before other o) c at;
      }

  pub same_rings : (rings : List Ring) → AreShortestRings Is rings → AreShortestRings Was rings
  same_rings rings h = record {
    places = same_requests Is Was same (ring_places rings) h.places;
    each = λ ring c. shortest_too ring.place ring.requests.items (h.each ring c);
  }
