-- By how many steps requests of a list lead to one of them, the end, over requests that are left.
use Rattle.std.specs.Prelude.{◌≡◌, ◌⊎◌, ℕ, zero, suc, ◌+◌, ◌<◌, ◌≤◌, Bool, false, List, [], ◌∷◌, length, Contains}
use Rattle.request_circles.specs.declared.requests.Request.{Request}
use Rattle.request_circles.specs.reading.Steps.{IsStep, IsStepLeft}
use Rattle.request_circles.specs.reading.Classes.{number_at}

-- how many have no number of steps
abbrev pub unnoted : List ℕ → ℕ
unnoted [] = 0
unnoted (zero ∷ far) = suc (unnoted far)
unnoted (suc n ∷ far) = unnoted far

module _ (requests : List Request) (left : List Bool) (end : ℕ) where
  -- it leads to the end by so many steps at most, and one at least
  abbrev pub IsWithin : ℕ → ℕ → Type 0
  IsWithin zero k = ⊥
  IsWithin (suc n) k = (j : ℕ) × IsStepLeft requests left false j k × ((j ≡ end) ⊎ IsWithin n j)

-- its next one is the end, or has fewer steps to go
pub record IsNearer (requests : List Request) (end : ℕ) (far next : List ℕ) (k : ℕ) : Type 0 where
  pub step : IsStep requests false (number_at next k) k
  pub near : (number_at next k ≡ end) ⊎ ((0 < number_at far (number_at next k))
      × (number_at far (number_at next k) < number_at far k))

-- All that lead to the end by fewer steps have their number of them, but for the end itself; what leads on to these is
-- a step away from the frontier.
pub record AreNoted (requests : List Request) (left : List Bool) (end : ℕ) (far next : List ℕ) (steps : ℕ)
    (frontier : List ℕ) : Type 0 where
  pub far_count : length far ≡ length requests
  pub next_count : length next ≡ length requests
  pub unmet : number_at far end ≡ 0
  pub below : (k : ℕ) → number_at far k < steps
  pub nearer : (k : ℕ) → 0 < number_at far k → IsNearer requests end far next k
  pub least : (n k : ℕ) → n < steps → IsWithin requests left end n k
      → (0 < number_at far k) × (number_at far k ≤ n)
  pub done : (k j : ℕ) → IsStepLeft requests left false j k → (j ≡ end) ⊎ (0 < number_at far j)
      → Contains frontier j ⊎ (0 < number_at far k)
  pub front : (j : ℕ) → Contains frontier j → (j < length requests) × ((j ≡ end) ⊎ (0 < number_at far j))

-- Of these numbers, those that lead into the frontier are noted.
pub record HasLevel (requests : List Request) (left : List Bool) (frontier : List ℕ) (steps : ℕ) (IsNext : ℕ → Type 0)
    (far next found new_far new_next new_found : List ℕ) : Type 0 where
  pub far_same : length new_far ≡ length far
  pub next_same : length new_next ≡ length next
  pub kept : (k : ℕ) → 0 < number_at far k
      → (number_at new_far k ≡ number_at far k) × (number_at new_next k ≡ number_at next k)
  pub fresh : (k : ℕ) → number_at far k ≡ 0 → 0 < number_at new_far k → (number_at new_far k ≡ steps)
      × Contains new_found k × Contains frontier (number_at new_next k)
      × IsStepLeft requests left false (number_at new_next k) k
  pub noted : (k j : ℕ) → IsNext k → Contains frontier j → IsStepLeft requests left false j k
      → 0 < number_at new_far k
  pub found_on : (k : ℕ) → Contains found k → Contains new_found k
  pub found_only : (k : ℕ) → Contains new_found k
      → Contains found k ⊎ ((k < length requests) × (0 < number_at new_far k))
  pub count : unnoted new_far + length new_found ≡ unnoted far + length found

-- What leads to the end by a least number of steps is known of the end itself.
pub record AreMeasured (requests : List Request) (left : List Bool) (end : ℕ) (far next : List ℕ) : Type 0 where
  pub far_count : length far ≡ length requests
  pub next_count : length next ≡ length requests
  pub nearer : (k : ℕ) → 0 < number_at far k → IsNearer requests end far next k
  pub least : (n : ℕ) → IsWithin requests left end n end → (0 < number_at far end) × (number_at far end ≤ n)
