-- Rings of requests, and which of them are shortest.
--
-- Let the task 0 hold the mutex 0 and ask for 1 at 2:34, and the task 1 hold 1 and ask for 0 at 3:34. The two requests,
-- in this order, are the shortest ring at 2:34, and in the other order the shortest one at 3:34.
use Rattle.std.specs.Prelude.{◌≡◌, ◌≤◌, List, [], ◌∷◌, length, Contains}
use Rattle.tm_terms.specs.declared.places.Place.{Place}
use Rattle.request_circles.specs.declared.requests.Request.{Request}
use Rattle.request_circles.specs.declared.rings.Ring.{Ring}
use Rattle.request_circles.specs.Requests.{LeadsTo, AreCircularPlaces}

-- a request leads to the first of others, each of these to the next one, and the last one to an end
abbrev pub LeadAlong : Request → List Request → Request → Type 0
LeadAlong r [] end = LeadsTo r end
LeadAlong r (s ∷ others) end = LeadsTo r s × LeadAlong s others end

-- the places at which rings begin
abbrev pub ring_places : List Ring → List Place
ring_places [] = []
ring_places (ring ∷ rings) = ring.place ∷ ring_places rings

-- of the requests that there are
module _ (IsRequest : Request → Type 0) where
  -- each leads to the next one, and the last one to the first
  pub record IsRing (ring : List Request) : Type 0 where
    pub first : Request
    pub others : List Request
    pub are : ring ≡ first ∷ others
    pub leads : LeadAlong first others first
    pub each : (r : Request) → Contains ring r → IsRequest r

  -- It begins with a request at the place, and no ring that goes over a request at the place has fewer.
  pub record IsShortestRing (place : Place) (ring : List Request) : Type 0 where
    pub is : IsRing ring
    pub begins : (let r = is.first in r.place ≡ place)
    pub least : (other : List Request) (r : Request) → IsRing other → Contains other r → r.place ≡ place
        → length ring ≤ length other

  -- a shortest ring for each place of a circular request, in the order of the places
  pub record AreShortestRings (rings : List Ring) : Type 0 where
    pub places : AreCircularPlaces IsRequest (ring_places rings)
    pub each : (ring : Ring) → Contains rings ring → IsShortestRing ring.place ring.requests.items
