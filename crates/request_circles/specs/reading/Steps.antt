-- Which request of a list is a step away from which, by their numbers in it.
use Rattle.std.specs.Prelude.{◌≡◌, ℕ, ◌<◌, Bool, true, false, List, length, get_or}
use Rattle.tm_soundness.specs.Known.{Chain}
use Rattle.request_circles.specs.declared.requests.Request.{Request}
use Rattle.request_circles.specs.Requests.{LeadsTo}

-- what stands in place of a request that there is not
abbrev pub no_request : Request
no_request = record { task = 0; held = 0; mutex = 0; place = record { line = 0; col = 0 } }

abbrev pub request_at : List Request → ℕ → Request
request_at requests k = get_or requests k no_request

abbrev pub IsMarked : List Bool → ℕ → Type 0
IsMarked marks k = get_or marks k false ≡ true

-- a request leads to another, or where the search goes back, the other to it
abbrev pub Joins : Bool → Request → Request → Type 0
Joins true r s = LeadsTo r s
Joins false r s = LeadsTo s r

module _ (requests : List Request) where
  pub record IsStep (ahead : Bool) (k j : ℕ) : Type 0 where
    pub one : k < length requests
    pub other : j < length requests
    pub joins : Joins ahead (request_at requests k) (request_at requests j)

  -- the request with this number leads back to itself
  abbrev pub IsOnCircle : ℕ → Type 0
  IsOnCircle k = Chain (IsStep true) k k

  module _ (left : List Bool) where
    -- a step to a request that is left
    pub record IsStepLeft (ahead : Bool) (k j : ℕ) : Type 0 where
      pub there : IsMarked left j
      pub step : IsStep ahead k j

    -- all circular requests are left
    pub record AreLeft : Type 0 where
      pub each : (k : ℕ) → IsOnCircle k → IsMarked left k
