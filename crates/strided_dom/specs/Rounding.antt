-- Rounding of a strided set onto thresholds.
use Rattle.std.specs.Prelude.{◌≡◌, ◌⊎◌, ℕ, ◌<◌, ◌≤◌, List, length, slice_index_or, ℤ, ◌≤ℤ◌, ◌<ℤ◌, Contains}
use Rattle.strided_dom.specs.Progression.{Progression, Has, IsLeastNumber, IsGreatestNumber, IsInReach, first_of}
use Rattle.strided_dom.specs.Progression.{last_of, stride_of}
use Rattle.tm_numbers.specs.Congruence.{IsCongruent}

-- A list of thresholds: in ascending order, without repeats, and in reach.
pub record IsMarkList (marks : List ℤ) : Type 0 where
  pub ascending : (i j : ℕ) (d : ℤ) → i < j → j < length marks → slice_index_or marks i d <ℤ slice_index_or marks j d
  pub in_reach : (i : ℕ) (d : ℤ) → i < length marks → IsInReach (slice_index_or marks i d)

-- x is one of the marks, and at most v.
abbrev pub IsMarkBelow : List ℤ → ℤ → ℤ → Type 0
IsMarkBelow marks v x = Contains marks x × (x ≤ℤ v)

-- x is one of the marks, and at least v.
abbrev pub IsMarkAbove : List ℤ → ℤ → ℤ → Type 0
IsMarkAbove marks v x = Contains marks x × (v ≤ℤ x)

-- v moved down: the greatest mark that is at most v, or v where there is none.
abbrev pub IsLowered : List ℤ → ℤ → ℤ → Type 0
IsLowered marks v low = IsGreatestNumber (IsMarkBelow marks v) low ⊎ ((low ≡ v) × ((x : ℤ) → ¬ IsMarkBelow marks v x))

-- v moved up: the least mark that is at least v, or v where there is none.
abbrev pub IsRaised : List ℤ → ℤ → ℤ → Type 0
IsRaised marks v high = IsLeastNumber (IsMarkAbove marks v) high ⊎ ((high ≡ v) × ((x : ℤ) → ¬ IsMarkAbove marks v x))

-- v is in the rounding of s: s has a member, v lies between the least member moved down and the greatest moved up, and
-- v is congruent to the members of s modulo its stride. So one number stays as it is.
pub record IsInRounding (marks : List ℤ) (s : Progression) (v : ℤ) : Type 0 where
  pub low : ℤ
  pub high : ℤ
  pub some : Has s (first_of s)
  pub lowered : IsLowered marks (first_of s) low
  pub raised : IsRaised marks (last_of s) high
  pub from : low ≤ℤ v
  pub to : v ≤ℤ high
  pub congruent : IsCongruent (stride_of s) v (first_of s)
