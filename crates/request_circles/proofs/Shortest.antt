-- Classes of requests, and what is found of their heads in terms of requests: shortest rings for all places.
use Rattle.std.proofs.Common.{◌≡◌, ◌↔◌, ℕ, zero, suc, ◌+◌, ◌-◌, ◌<◌, ◌≤◌, refl, ap, sym, subst, ◌∙◌, inl, inr, Bool}
use Rattle.std.proofs.Common.{List, [], ◌∷◌, ◌++◌, length, take, get_or, arith}
use Rattle.std.specs.Prelude.{Contains}
use Rattle.std.proofs.lemmas.Bool.{cases_eq}
use Rattle.std.proofs.lemmas.List.{length-append, get_or_append_left, get_or_push, take_all, take_more}
use Rattle.std.proofs.lemmas.List.Elements.{Contains-push_cases, Contains-get_or}
use Rattle.tm_soundness.specs.Known.{Chain, one_step, more_steps}
use Rattle.tm_terms.specs.declared.places.Place.{Place}
use Rattle.request_circles.specs.declared.requests.Request.{Request}
use Rattle.request_circles.specs.declared.rings.Ring.{Ring}
use Rattle.request_circles.specs.Requests.{Leads, IsCircularPlace, AreCircularPlaces}
use Rattle.request_circles.specs.Rings.{IsShortestRing, ring_places, AreShortestRings}
use Rattle.request_circles.specs.reading.Steps.{no_request, request_at, IsMarked, IsOnCircle, AreLeft}
use Rattle.request_circles.specs.reading.Classes.{IsSameClass, number_at, HasHead, AreClasses}
use Rattle.request_circles.specs.reading.Nearest.{IsWalk, BeginsAt, IsNearestAt, AreNearest}
use Rattle.request_circles.proofs.Ways.{Way, way_of, round, request_is, back_within, element}

-- ## Heads

pub head_stays : (heads : List Request) (request : Request) → 0 < length heads
    → IsSameClass (request_at heads (length heads - 1)) request → HasHead heads heads request
head_stays heads request some same = record {
  some = some;
  last = same;
  kept = λ k lt. (lt, refl);
  only = λ r c. inl c;
}

pub head_added : (heads : List Request) (request : Request) → HasHead heads (heads ++ request ∷ []) request
head_added heads request =
    let long : length (heads ++ request ∷ []) ≡ length heads + 1 = length-append heads (request ∷ []) in
    let at : length (heads ++ request ∷ []) - 1 ≡ length heads = omega (arith, long) in
    record {
      some = omega (arith, long);
      last = subst (λ (r : Request). IsSameClass r request)
          (sym (ap (request_at (heads ++ request ∷ [])) at ∙ get_or_push heads request no_request (length heads) refl))
          (record { task = refl; held = refl; mutex = refl });
      kept = λ k lt. (omega (arith, lt, long), get_or_append_left heads (request ∷ []) no_request k lt);
      only = λ r c. elim (Contains-push_cases heads request r c) [ inl o ↦ inl o | inr e ↦ inr (sym e) ];
    }

pub no_classes : (requests heads : List Request) (numbers : List ℕ) → heads ≡ [] → numbers ≡ []
    → AreClasses requests heads numbers 0
no_classes requests heads numbers no_heads none = record {
  count = ap length none;
  within = λ k lt. absurd (omega (arith, lt));
  class = λ k lt. absurd (omega (arith, lt));
  only = λ r c. absurd (
      let d : Contains [] r = subst (λ (xs : List Request). Contains xs r) no_heads c in let lt = d.1 in omega (arith, lt));
}

pub one_class_more : (requests heads new : List Request) (numbers : List ℕ) (n m : ℕ) → n < length requests
    → AreClasses requests heads numbers n → HasHead heads new (request_at requests n) → m ≡ length new - 1
    → AreClasses requests new (numbers ++ m ∷ []) (n + 1)
one_class_more requests heads new numbers n m lt are h e =
    let count = are.count in
    let some = h.some in
    let old : (k : ℕ) → k < n → number_at (numbers ++ m ∷ []) k ≡ number_at numbers k =
    λ k less. get_or_append_left numbers (m ∷ []) 0 k (omega (arith, less, count)) in
    let this : (k : ℕ) → k ≡ n → number_at (numbers ++ m ∷ []) k ≡ m =
    λ k is. get_or_push numbers m 0 k (count ∙ sym is) in
    record {
      count = (let long = length-append numbers (m ∷ []) in omega (arith, long, count));
      within = λ k less. elim (cases_eq k n) [
        | inl is ↦ (let t = this k is in omega (arith, t, e, some))
        | inr other ↦
            let below : k < n = omega (arith, less, other) in
            let t = old k below in
            let w = h.kept (number_at numbers k) (are.within k below) in let lo = w.0 in omega (arith, t, lo)
      ];
      class = λ k less. elim (cases_eq k n) [
        | inl is ↦
            subst (λ (i : ℕ). IsSameClass (request_at new i) (request_at requests k)) (sym (this k is ∙ e))
            (subst (λ (i : ℕ). IsSameClass (request_at new (length new - 1)) (request_at requests i)) (sym is) h.last)
        | inr other ↦
            let below : k < n = omega (arith, less, other) in
            let w = h.kept (number_at numbers k) (are.within k below) in
            subst (λ (i : ℕ). IsSameClass (request_at new i) (request_at requests k)) (sym (old k below))
            (subst (λ (r : Request). IsSameClass r (request_at requests k)) (sym w.1) (are.class k below))
      ];
      only = λ r c. elim (h.only r c) [
        | inl o ↦ are.only r o
        | inr is ↦ subst (Contains requests) (sym is) (Contains-get_or requests n no_request lt)
      ];
    }

-- ## Rings for places

places_pushed : (rings : List Ring) (ring : Ring) → ring_places (rings ++ ring ∷ []) ≡ ring_places rings ++ ring.place ∷ []
places_pushed [] ring = refl
places_pushed (first ∷ rings) ring = ap (λ (qs : List Place). first.place ∷ qs) (places_pushed rings ring)

place_of : (rings : List Ring) (ring : Ring) → Contains rings ring → Contains (ring_places rings) ring.place
place_of [] ring (k, lt, e) = absurd (omega (arith, lt))
place_of (first ∷ rings) ring (zero, lt, e) = (zero, omega arith, ap (λ (r : Ring). r.place) e)
place_of (first ∷ rings) ring (suc k, lt, e) =
    let h = place_of rings ring (k, omega (arith, lt), e) in let less = h.1 in (suc h.0, omega (arith, less), h.2)

module _ (requests heads : List Request) (numbers : List ℕ) (left : List Bool) where
  pub no_rings : (places : List Place) (rings : List Ring) → rings ≡ [] → AreNearest requests heads numbers left places 0 rings
  no_rings places rings none = record {
    places_are = ap ring_places none;
    each = λ ring c. absurd (
        let d : Contains [] ring = subst (λ (xs : List Ring). Contains xs ring) none c in
        let lt = d.1 in omega (arith, lt));
  }

  pub one_ring_more : (places : List Place) (n : ℕ) (rings : List Ring) (ring : Ring) (d : Place) → n < length places
      → ring.place ≡ get_or places n d → AreNearest requests heads numbers left places n rings
      → IsNearestAt requests heads numbers left ring.place (length requests) ring.requests.items
      → AreNearest requests heads numbers left places (n + 1) (rings ++ ring ∷ [])
  one_ring_more places n rings ring d lt is old new = record {
    places_are = places_pushed rings ring ∙ ap (λ (qs : List Place). qs ++ ring.place ∷ []) old.places_are
        ∙ ap (λ (q : Place). take n places ++ q ∷ []) is ∙ sym (take_more places n d lt);
    each = λ r c. elim (Contains-push_cases rings ring r c) [
      | inl o ↦ old.each r o
      | inr e ↦ subst (λ (x : Ring). IsNearestAt requests heads numbers left x.place (length requests) x.requests.items)
          e new
    ];
  }

-- ## Rings of requests

module _ (requests heads : List Request) (numbers : List ℕ) (left : List Bool)
    (are : AreClasses requests heads numbers (length requests))
    (circles : (k : ℕ) → IsMarked left k ↔ IsOnCircle heads k) where
  all_left : AreLeft heads left
  all_left = record { each = λ k c. (circles k).1 c }

  module _ (place : Place) (ring : List Request)
      (nearest : IsNearestAt requests heads numbers left place (length requests) ring) where
    -- no shorter way leads a request at the place back to itself
    least_way : (r : Request) (n : ℕ) → Contains requests r → r.place ≡ place
        → Way Request (Leads (Contains requests)) r n r → (0 < length ring) × (length ring ≤ n)
    least_way r n c at way =
        let is : request_at requests c.0 ≡ r = request_is requests heads numbers are r c in
        nearest.least c.0 n c.1 (ap (λ (s : Request). s.place) is ∙ at)
        (back_within requests heads numbers are left all_left c.0 n c.1
        (subst (λ (s : Request). Way Request (Leads (Contains requests)) s n s) (sym is) way))

    some : IsCircularPlace (Contains requests) place → 0 < length ring
    some h =
        let way = way_of Request (Leads (Contains requests)) h.request h.request h.circular in
        let both = least_way h.request way.0 (asked h.request h.request h.circular) h.is way.1 in both.0
      where
        asked : (r s : Request) → Chain (Leads (Contains requests)) r s → Contains requests r
        asked r s (one_step l) = l.one
        asked r s (more_steps l rest) = l.one

    pub shortest_at : IsCircularPlace (Contains requests) place → IsShortestRing (Contains requests) place ring
    shortest_at h =
        let b : BeginsAt requests heads place ring = nearest.sound (some h) in
        let i : ℕ = b.number in
        let first : Request = request_at requests i in
        let w : IsWalk heads first ring first = b.walk in
        record {
          is = record {
            first = first;
            others = w.others;
            are = w.are;
            leads = w.leads;
            each = λ r c. elim (element first r w.others (subst (λ (xs : List Request). Contains xs r) w.are c)) [
              | inl e ↦ subst (Contains requests) e (Contains-get_or requests i no_request b.within)
              | inr o ↦ are.only r (w.each r o)
            ];
          };
          begins = b.at;
          least = λ other r is c at.
              let both = least_way r (length other) (is.each r c) at (round (Contains requests) other r is c) in both.1;
        }

  pub all_shortest : (places : List Place) (n : ℕ) (rings : List Ring) → n ≡ length places
      → AreNearest requests heads numbers left places n rings → AreCircularPlaces (Contains requests) places
      → AreShortestRings (Contains requests) rings
  all_shortest places n rings end near circular =
      let e : ring_places rings ≡ places = near.places_are ∙ take_all n places (omega (arith, end)) in
      record {
        places = subst (AreCircularPlaces (Contains requests)) (sym e) circular;
        each = λ ring c.
            shortest_at ring.place ring.requests.items (near.each ring c)
            ((circular.exact ring.place).0 (subst (λ (qs : List Place). Contains qs ring.place) e (place_of rings ring c)));
      }
