-- Rings that are found over heads of classes.
use Rattle.std.specs.Prelude.{◌≡◌, ◌⊎◌, ℕ, ◌+◌, ◌<◌, ◌≤◌, Bool, List, ◌∷◌, length, take, Contains}
use Rattle.tm_terms.specs.declared.places.Place.{Place}
use Rattle.request_circles.specs.declared.requests.Request.{Request}
use Rattle.request_circles.specs.declared.rings.Ring.{Ring}
use Rattle.request_circles.specs.Rings.{LeadAlong, ring_places}
use Rattle.request_circles.specs.reading.Steps.{request_at}
use Rattle.request_circles.specs.reading.Classes.{number_at}
use Rattle.request_circles.specs.reading.Distances.{IsWithin}

-- from a request over heads to one of them
pub record IsWalk (heads : List Request) (first : Request) (ring : List Request) (last : Request) : Type 0 where
  pub others : List Request
  pub are : ring ≡ first ∷ others
  pub leads : LeadAlong first others last
  pub each : (r : Request) → Contains others r → Contains heads r

-- a walk on the way to the end, of which no more steps are left than its length allows
pub record IsOnWay (heads : List Request) (end : ℕ) (far : List ℕ) (first : Request) (ring : List Request) (next : ℕ)
    : Type 0 where
  pub walk : IsWalk heads first ring (request_at heads next)
  pub within : next < length heads
  pub to_go : (next ≡ end) ⊎ ((0 < number_at far next) × (number_at far next + length ring ≤ number_at far end))
  pub short : length ring ≤ number_at far end

-- a shortest ring of the head with this number; without requests, if there is none
pub record IsNearest (heads : List Request) (left : List Bool) (end : ℕ) (first : Request) (ring : List Request)
    : Type 0 where
  pub sound : 0 < length ring → IsWalk heads first ring first
  pub least : (n : ℕ) → IsWithin heads left end n end → (0 < length ring) × (length ring ≤ n)

-- a ring of one of the requests at the place
pub record BeginsAt (requests heads : List Request) (place : Place) (ring : List Request) : Type 0 where
  pub number : ℕ
  pub within : number < length requests
  pub at : (let r = request_at requests number in r.place ≡ place)
  pub walk : IsWalk heads (request_at requests number) ring (request_at requests number)

-- a shortest one of those of the first requests; without requests, if there is none
pub record IsNearestAt (requests heads : List Request) (numbers : List ℕ) (left : List Bool) (place : Place) (n : ℕ)
    (ring : List Request) : Type 0 where
  pub sound : 0 < length ring → BeginsAt requests heads place ring
  pub least : (k m : ℕ) → k < n → (let r = request_at requests k in r.place ≡ place)
      → IsWithin heads left (number_at numbers k) m (number_at numbers k) → (0 < length ring) × (length ring ≤ m)

-- one for each of the first places
pub record AreNearest (requests heads : List Request) (numbers : List ℕ) (left : List Bool) (places : List Place) (n : ℕ)
    (rings : List Ring) : Type 0 where
  pub places_are : ring_places rings ≡ take n places
  pub each : (ring : Ring) → Contains rings ring
      → IsNearestAt requests heads numbers left ring.place (length requests) ring.requests.items
