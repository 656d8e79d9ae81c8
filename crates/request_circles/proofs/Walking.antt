-- Walks from a request to the next ones, and the best of the rings at a place.
use Rattle.std.proofs.Common.{◌≡◌, ◌⊎◌, ℕ, ◌+◌, ◌<◌, ◌≤◌, refl, ap, sym, subst, inl, inr, Bool, List, [], ◌∷◌}
use Rattle.std.proofs.Common.{◌++◌, length, arith}
use Rattle.std.specs.Prelude.{Contains}
use Rattle.std.proofs.lemmas.Bool.{cases_eq, cases_lt}
use Rattle.std.proofs.lemmas.List.{length-append}
use Rattle.std.proofs.lemmas.List.Elements.{Contains-push_cases, Contains-get_or}
use Rattle.tm_terms.specs.declared.places.Place.{Place}
use Rattle.request_circles.specs.declared.requests.Request.{Request}
use Rattle.request_circles.specs.Requests.{LeadsTo}
use Rattle.request_circles.specs.Rings.{LeadAlong}
use Rattle.request_circles.specs.reading.Steps.{no_request, request_at}
use Rattle.request_circles.specs.reading.Classes.{IsSameClass, number_at}
use Rattle.request_circles.specs.reading.Distances.{IsWithin, IsNearer, AreMeasured}
use Rattle.request_circles.specs.reading.Nearest.{IsWalk, IsOnWay, IsNearest, IsNearestAt}
use Rattle.request_circles.proofs.Ways.{same_leads, no_element}

own_class : (r : Request) → IsSameClass r r
own_class r = record { task = refl; held = refl; mutex = refl }

turned_class : (r s : Request) → IsSameClass r s → IsSameClass s r
turned_class r s h = record { task = sym h.task; held = sym h.held; mutex = sym h.mutex }

along_more : (a : Request) (others : List Request) (x y : Request) → LeadAlong a others x → LeadsTo x y
    → LeadAlong a (others ++ x ∷ []) y
along_more a [] x y l m = (l, m)
along_more a (s ∷ others) x y l m = (l.0, along_more s others x y l.1 m)

along_as : (a : Request) (others : List Request) (x y : Request) → IsSameClass y x → LeadAlong a others x
    → LeadAlong a others y
along_as a [] x y same l = same_leads a x a y (own_class a) same l
along_as a (s ∷ others) x y same l = (l.0, along_as s others x y same l.1)

-- ## A walk

module _ (heads : List Request) (end : ℕ) (far next : List ℕ)
    (nearer : (k : ℕ) → 0 < number_at far k → IsNearer heads end far next k) (first : Request) where
  leads_next : (k : ℕ) → 0 < number_at far k → LeadsTo (request_at heads k) (request_at heads (number_at next k))
  leads_next k p = (let n = nearer k p in let s = n.step in s.joins)

  next_within : (k : ℕ) → 0 < number_at far k → number_at next k < length heads
  next_within k p = (let n = nearer k p in let s = n.step in s.one)

  to_go_next : (k m l : ℕ) → 0 < number_at far k → number_at far k + m ≤ number_at far end → l ≡ m + 1
      → (number_at next k ≡ end) ⊎ ((0 < number_at far (number_at next k))
      × (number_at far (number_at next k) + l ≤ number_at far end))
  to_go_next k m l p le e = by_near (let n = nearer k p in n.near)
    where
      by_near : (number_at next k ≡ end) ⊎ ((0 < number_at far (number_at next k))
          × (number_at far (number_at next k) < number_at far k))
          → (number_at next k ≡ end) ⊎ ((0 < number_at far (number_at next k))
          × (number_at far (number_at next k) + l ≤ number_at far end))
      by_near (inl is) = inl is
      by_near (inr (q, lt)) = inr (q, omega (arith, lt, le, e))

  pub walk_begins : (ring : List Request) → ring ≡ first ∷ [] → IsSameClass (request_at heads end) first
      → 0 < number_at far end → IsOnWay heads end far first ring (number_at next end)
  walk_begins ring is same p =
      let one : length ring ≡ 1 = ap length is in
      record {
        walk = record {
          others = [];
          are = is;
          leads = same_leads (request_at heads end) (request_at heads (number_at next end)) first
              (request_at heads (number_at next end)) (turned_class (request_at heads end) first same)
              (own_class (request_at heads (number_at next end))) (leads_next end p);
          each = λ r c. absurd (no_element r c);
        };
        within = next_within end p;
        to_go = to_go_next end 0 (length ring) p (omega arith) (omega (arith, one));
        short = omega (arith, one, p);
      }

  pub walk_goes_on : (ring : List Request) (k : ℕ) → IsOnWay heads end far first ring k → (k ≡ end → ⊥)
      → IsOnWay heads end far first (ring ++ request_at heads k ∷ []) (number_at next k)
  walk_goes_on ring k w other = by_way w.to_go
    where
      longer : length (ring ++ request_at heads k ∷ []) ≡ length ring + 1
      longer = length-append ring (request_at heads k ∷ [])

      by_way : (k ≡ end) ⊎ ((0 < number_at far k) × (number_at far k + length ring ≤ number_at far end))
          → IsOnWay heads end far first (ring ++ request_at heads k ∷ []) (number_at next k)
      by_way (inl e) = absurd (other e)
      by_way (inr (p, le)) =
          let x = request_at heads k in
          let v : IsWalk heads first ring x = w.walk in
          record {
            walk = record {
              others = v.others ++ x ∷ [];
              are = ap (λ (xs : List Request). xs ++ x ∷ []) v.are;
              leads = along_more first v.others x (request_at heads (number_at next k)) v.leads (leads_next k p);
              each = λ r c. elim (Contains-push_cases v.others x r c) [
                | inl o ↦ v.each r o
                | inr e ↦ subst (Contains heads) e (Contains-get_or heads k no_request w.within)
              ];
            };
            within = next_within k p;
            to_go = to_go_next k (length ring) (length (ring ++ x ∷ [])) p le longer;
            short = omega (arith, longer, p, le);
          }

  pub walk_ends : (ring : List Request) (k : ℕ) → IsOnWay heads end far first ring k → k ≡ end
      → IsSameClass (request_at heads end) first → IsWalk heads first ring first
  walk_ends ring k w e same =
      let v : IsWalk heads first ring (request_at heads k) = w.walk in
      record {
        others = v.others;
        are = v.are;
        leads = along_as first v.others (request_at heads k) first
            (turned_class (request_at heads k) first
            (subst (λ (i : ℕ). IsSameClass (request_at heads i) first) (sym e) same)) v.leads;
        each = v.each;
      }

-- ## The ring of a head

module _ (heads : List Request) (left : List Bool) (end : ℕ) (first : Request) (far next : List ℕ)
    (are : AreMeasured heads left end far next) where
  pub nearest_none : number_at far end ≡ 0 → (ring : List Request) → ring ≡ [] → IsNearest heads left end first ring
  nearest_none none ring is =
      let e : length ring ≡ 0 = ap length is in
      record {
        sound = λ p. absurd (omega (arith, e, p));
        least = λ n h. absurd (let l = are.least n h in let p = l.0 in omega (arith, p, none));
      }

  pub nearest_some : (ring : List Request) → IsWalk heads first ring first → length ring ≤ number_at far end
      → IsNearest heads left end first ring
  nearest_some ring w short = record {
    sound = λ p. w;
    least = λ n h.
        let e = ap length w.are in
        let l = are.least n h in let le = l.1 in (omega (arith, e), omega (arith, le, short));
  }

-- ## The best ring at a place

module _ (requests heads : List Request) (numbers : List ℕ) (left : List Bool) (place : Place) where
  pub nearest_at_none : (ring : List Request) → ring ≡ [] → IsNearestAt requests heads numbers left place 0 ring
  nearest_at_none ring is =
      let e : length ring ≡ 0 = ap length is in
      record {
        sound = λ p. absurd (omega (arith, e, p));
        least = λ k m lt at h. absurd (omega (arith, lt));
      }

  module _ (n : ℕ) (best : List Request) (are : IsNearestAt requests heads numbers left place n best) where
    pub at_other_place : ((let r = request_at requests n in r.place ≡ place) → ⊥)
        → IsNearestAt requests heads numbers left place (n + 1) best
    at_other_place other = record {
      sound = are.sound;
      least = λ k m lt at h. elim (cases_eq k n) [
        | inl e ↦ absurd (other (subst (λ (i : ℕ). let r = request_at requests i in r.place ≡ place) e at))
        | inr below ↦ are.least k m (omega (arith, lt, below)) at h
      ];
    }

    module _ (ring : List Request)
        (nearest : IsNearest heads left (number_at numbers n) (request_at requests n) ring) where
      of_this : (k m : ℕ) → k ≡ n → IsWithin heads left (number_at numbers k) m (number_at numbers k)
          → (0 < length ring) × (length ring ≤ m)
      of_this k m e h =
          nearest.least m
          (subst (λ (i : ℕ). IsWithin heads left (number_at numbers i) m (number_at numbers i)) e h)

      pub at_shorter : n < length requests → (let r = request_at requests n in r.place ≡ place) → 0 < length ring
          → (length best ≡ 0) ⊎ (length ring < length best)
          → IsNearestAt requests heads numbers left place (n + 1) ring
      at_shorter within here some less = record {
        sound = λ p. record { number = n; within = within; at = here; walk = nearest.sound p };
        least = λ k m lt at h. elim (cases_eq k n) [
          | inl e ↦ of_this k m e h
          | inr below ↦ shorter m less (are.least k m (omega (arith, lt, below)) at h)
        ];
      }
        where
          shorter : (m : ℕ) → (length best ≡ 0) ⊎ (length ring < length best)
              → (0 < length best) × (length best ≤ m) → (0 < length ring) × (length ring ≤ m)
          shorter m (inl none) (p, le) = absurd (omega (arith, none, p))
          shorter m (inr lt) (p, le) = (some, omega (arith, lt, le))

      pub at_longer : ((0 < length ring) × ((length best ≡ 0) ⊎ (length ring < length best)) → ⊥)
          → IsNearestAt requests heads numbers left place (n + 1) best
      at_longer not_less = record {
        sound = are.sound;
        least = λ k m lt at h. elim (cases_eq k n) [
          | inl e ↦ (let here = of_this k m e h in no_longer m here.0 here.1)
          | inr below ↦ are.least k m (omega (arith, lt, below)) at h
        ];
      }
        where
          no_longer : (m : ℕ) → 0 < length ring → length ring ≤ m → (0 < length best) × (length best ≤ m)
          no_longer m p le = (
            elim (cases_lt 0 (length best)) [
              | inl some ↦ some
              | inr none ↦ absurd (not_less (p, inl (omega (arith, none))))
            ],
            elim (cases_lt (length ring) (length best)) [
              | inl less ↦ absurd (not_less (p, inr less))
              | inr most ↦ omega (arith, most, le)
            ],
          )
