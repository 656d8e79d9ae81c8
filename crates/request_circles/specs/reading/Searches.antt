-- What a search for the requests that one reaches keeps.
use Rattle.std.specs.Prelude.{◌≡◌, ◌↔◌, ◌⊎◌, ℕ, ◌+◌, Bool, List, length, Contains}
use Rattle.tm_soundness.specs.Known.{Chain}
use Rattle.request_circles.specs.declared.requests.Request.{Request}
use Rattle.request_circles.specs.reading.Steps.{IsMarked, IsStepLeft}
use Rattle.request_circles.specs.reading.Trims.{marked}

-- these numbers were marked, and those that had not been wait
pub record HasVisited (IsNext : ℕ → Type 0) (old new : List Bool) (waiting waits : List ℕ) : Type 0 where
  pub same : length new ≡ length old
  pub kept : (k : ℕ) → IsMarked old k → IsMarked new k
  pub next : (k : ℕ) → IsNext k → IsMarked new k
  pub only : (k : ℕ) → IsMarked new k → IsMarked old k ⊎ (IsNext k × Contains waits k)
  pub wait_on : (k : ℕ) → Contains waiting k → Contains waits k
  pub wait_only : (k : ℕ) → Contains waits k → Contains waiting k ⊎ IsNext k
  pub count : marked old + length waits ≡ marked new + length waiting

module _ (requests : List Request) (left : List Bool) (ahead : Bool) (from : ℕ) where
  -- what is reached is marked, but for what the waiting ones reach
  pub record IsSearching (reached : List Bool) (waiting : List ℕ) : Type 0 where
    pub same : length reached ≡ length requests
    pub sound : (k : ℕ) → IsMarked reached k → Chain (IsStepLeft requests left ahead) from k
    pub known : (k : ℕ) → Contains waiting k → (k ≡ from) ⊎ IsMarked reached k
    pub closed : (k : ℕ) → (k ≡ from) ⊎ IsMarked reached k
        → Contains waiting k ⊎ ((j : ℕ) → IsStepLeft requests left ahead k j → IsMarked reached j)

  -- exactly the requests that it reaches over those that are left, by one step or more
  pub record AreReached (reached : List Bool) : Type 0 where
    pub same : length reached ≡ length requests
    pub exact : (k : ℕ) → IsMarked reached k ↔ Chain (IsStepLeft requests left ahead) from k
