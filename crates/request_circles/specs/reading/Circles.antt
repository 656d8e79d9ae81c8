-- Which requests of a list are found circular, by their numbers in it.
use Rattle.std.specs.Prelude.{◌≡◌, ◌⊎◌, ℕ, ◌<◌, Bool, List, length}
use Rattle.tm_terms.specs.declared.places.Place.{Place}
use Rattle.request_circles.specs.declared.requests.Request.{Request}
use Rattle.request_circles.specs.reading.Steps.{request_at, IsMarked, IsOnCircle, AreLeft}

-- what both have is added
pub record HasCommon (one other old new : List Bool) : Type 0 where
  pub same : length new ≡ length old
  pub kept : (k : ℕ) → IsMarked old k → IsMarked new k
  pub only : (k : ℕ) → IsMarked new k → IsMarked old k ⊎ (IsMarked one k × IsMarked other k)

-- whether the request is circular is known, and all that was known before still is
pub record HasDecided (requests : List Request) (number : ℕ) (left leaves old new : List Bool) : Type 0 where
  pub left_same : length leaves ≡ length left
  pub same : length new ≡ length old
  pub all_left : AreLeft requests leaves
  pub kept : (k : ℕ) → IsMarked old k → IsMarked new k
  pub sound : (k : ℕ) → IsMarked new k → IsMarked old k ⊎ IsOnCircle requests k
  pub decided : IsOnCircle requests number → IsMarked new number

-- a request with one of the numbers stands at the place
pub record IsPlaceOf (requests : List Request) (numbers : List Bool) (place : Place) : Type 0 where
  pub number : ℕ
  pub within : number < length requests
  pub marked : IsMarked numbers number
  pub is : (let r = request_at requests number in r.place ≡ place)
