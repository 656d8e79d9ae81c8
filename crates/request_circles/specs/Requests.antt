-- Requests for mutexes, and which of them lead back to themselves.
--
-- Let the task 0 hold the mutex 0 and ask for 1 at 2:34, and the task 1 hold 1 and ask for 0 at 3:34. The first request
-- leads to the second, since the task 1 holds what the task 0 asks for, and the second to the first: both are circular,
-- and the places are 2:34 and 3:34. Where both hold the mutex 2 besides, neither leads to the other: two tasks never
-- hold one mutex at the same time.
use Rattle.std.specs.Prelude.{◌≡◌, ◌↔◌, true, List, Contains}
use Rattle.std.specs.Int.{bit_at}
use Rattle.tm_terms.specs.declared.places.Place.{Place}
use Rattle.tm_soundness.specs.Known.{Chain}
use Rattle.interfere_set.specs.Stores.{are_apart}
use Rattle.place_lists.specs.Order.{AreInOrder}
use Rattle.request_circles.specs.declared.requests.Request.{Request}

-- ## Requests

-- one request leads to another: of another task, which holds its mutex, while both hold none in common
pub record LeadsTo (r s : Request) : Type 0 where
  pub differ : r.task ≡ s.task → ⊥
  pub apart : are_apart r.held s.held ≡ true
  pub holds : bit_at s.held r.mutex ≡ 1

-- ## Circular requests

-- of the requests that there are
module _ (IsRequest : Request → Type 0) where
  pub record Leads (r s : Request) : Type 0 where
    pub one : IsRequest r
    pub other : IsRequest s
    pub leads : LeadsTo r s

  -- a request that leads back to itself, over one step or more
  abbrev pub IsCircular : Request → Type 0
  IsCircular r = Chain Leads r r

  -- a circular request stands at the place
  pub record IsCircularPlace (place : Place) : Type 0 where
    pub request : Request
    pub circular : IsCircular request
    pub is : request.place ≡ place

  -- exactly these places, in order and without repeats
  pub record AreCircularPlaces (places : List Place) : Type 0 where
    pub sorted : AreInOrder places
    pub exact : (place : Place) → Contains places place ↔ IsCircularPlace place
