-- Requests of a list and their numbers: a request is circular exactly where its number is.
use Rattle.std.proofs.Common.{◌≡◌, ◌↔◌, ℕ, ◌<◌, ap, sym, subst, ◌∙◌, Bool, true, List, length}
use Rattle.std.specs.Prelude.{Contains}
use Rattle.std.proofs.lemmas.List.{get_or_default}
use Rattle.tm_terms.specs.declared.places.Place.{Place}
use Rattle.tm_soundness.specs.Known.{Chain, one_step, more_steps}
use Rattle.request_circles.specs.declared.requests.Request.{Request}
use Rattle.request_circles.specs.Requests.{LeadsTo, Leads, IsCircular, IsCircularPlace}
use Rattle.request_circles.specs.reading.Steps.{no_request, request_at, IsMarked, IsStep, IsOnCircle}
use Rattle.request_circles.specs.reading.Circles.{IsPlaceOf}

-- the request with a number
pub record IsNumbered (requests : List Request) (r : Request) : Type 0 where
  pub number : ℕ
  pub within : number < length requests
  pub is : request_at requests number ≡ r

module _ (requests : List Request) where
  numbered : (r : Request) → Contains requests r → IsNumbered requests r
  numbered r c = record {
    number = c.0;
    within = c.1;
    is = get_or_default requests c.0 no_request r c.1 ∙ c.2;
  }

  contained : (k : ℕ) → k < length requests → Contains requests (request_at requests k)
  contained k lt = (k, lt, get_or_default requests k (request_at requests k) no_request lt)

  step : (r s : Request) (k j : ℕ) → k < length requests → j < length requests → request_at requests k ≡ r
      → request_at requests j ≡ s → LeadsTo r s → IsStep requests true k j
  step r s k j a b one other h = record {
    one = a;
    other = b;
    joins = subst (λ x. LeadsTo x (request_at requests j)) (sym one) (subst (LeadsTo r) (sym other) h);
  }

  numbers : (r s : Request) (k j : ℕ) → k < length requests → j < length requests → request_at requests k ≡ r
      → request_at requests j ≡ s → Chain (Leads (Contains requests)) r s → Chain (IsStep requests true) k j
  numbers r s k j a b one other (one_step h) = one_step (step r s k j a b one other h.leads)
  numbers r s k j a b one other (more_steps {b = q} h rest) =
      let n : IsNumbered requests q = numbered q h.other in
      more_steps (step r q k n.number a n.within one n.is h.leads)
      (numbers q s n.number j n.within b n.is other rest)

  requested : (k j : ℕ) → Chain (IsStep requests true) k j
      → Chain (Leads (Contains requests)) (request_at requests k) (request_at requests j)
  requested k j (one_step h) =
      one_step (record { one = contained k h.one; other = contained j h.other; leads = h.joins })
  requested k j (more_steps {b = d} h rest) =
      more_steps (record { one = contained k h.one; other = contained d h.other; leads = h.joins }) (requested d j rest)

  one_of : (r : Request) → IsCircular (Contains requests) r → Contains requests r
  one_of r (one_step h) = h.one
  one_of r (more_steps h rest) = h.one

  -- the places of numbers are those of requests
  pub places_are : (numbers : List Bool) → ((k : ℕ) → IsMarked numbers k ↔ IsOnCircle requests k) → (q : Place)
      → IsPlaceOf requests numbers q ↔ IsCircularPlace (Contains requests) q
  places_are marks are q = (to, back)
    where
      to : IsPlaceOf requests marks q → IsCircularPlace (Contains requests) q
      to h = record {
        request = request_at requests h.number;
        circular = requested h.number h.number ((are h.number).0 h.marked);
        is = h.is;
      }

      back : IsCircularPlace (Contains requests) q → IsPlaceOf requests marks q
      back h =
          let n : IsNumbered requests h.request = numbered h.request (one_of h.request h.circular) in
          record {
            number = n.number;
            within = n.within;
            marked = (are n.number).1
                (numbers h.request h.request n.number n.number n.within n.within n.is n.is h.circular);
            is = ap (λ (r : Request). r.place) n.is ∙ h.is;
          }
