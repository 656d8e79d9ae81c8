-- Finite sets of evenly spaced integers: what a `Strided` is in every contract.
use Rattle.std.specs.Prelude.{◌≡◌, ℕ, ◌+◌, ◌*◌, ◌≤◌, ◌^◌, ℤ, pos, neg_ℤ, ◌+ℤ◌, ◌≤ℤ◌}
use Rattle.tm_numbers.specs.Congruence.{IsCongruent}

-- No number; one number; or the numbers first, first + stride, first + 2 * stride, .., of which there are at least two.
-- A `row` keeps its stride less 1 and its number of steps less 1, so that each set is written in one way only.
pub data Progression : Type 0 where
  empty : Progression
  single : ℤ → Progression
  row : ℤ → ℕ → ℕ → Progression

-- v is a member of the set.
unfoldable pub Has : Progression → ℤ → Type 0
Has empty v = ⊥
Has (single w) v = v ≡ w
Has (row first gap more) v = (k : ℕ) × ((k ≤ more + 1) × (v ≡ first +ℤ pos (k * (gap + 1))))

-- The order: each member of s is a member of t.
pub record IsSubset (s t : Progression) : Type 0 where
  pub within : (v : ℤ) → Has s v → Has t v

-- The members of the set are exactly the integers with the property P.
pub record IsExactly (P : ℤ → Type 0) (s : Progression) : Type 0 where
  pub sound : (v : ℤ) → Has s v → P v
  pub complete : (v : ℤ) → P v → Has s v

-- The set is the hull of the integers with the property P: it holds them all, and lies below every set that does.
pub record IsHull (P : ℤ → Type 0) (s : Progression) : Type 0 where
  pub complete : (v : ℤ) → P v → Has s v
  pub least : (t : Progression) → ((v : ℤ) → P v → Has t v) → IsSubset s t

-- x is the least integer with the property P.
pub record IsLeastNumber (P : ℤ → Type 0) (x : ℤ) : Type 0 where
  pub member : P x
  pub bound : (y : ℤ) → P y → x ≤ℤ y

-- x is the greatest integer with the property P.
pub record IsGreatestNumber (P : ℤ → Type 0) (x : ℤ) : Type 0 where
  pub member : P x
  pub bound : (y : ℤ) → P y → y ≤ℤ x

-- v is one of the integers from low to high that are congruent to low modulo m.
pub record IsSpaced (low high : ℤ) (m : ℕ) (v : ℤ) : Type 0 where
  pub from : low ≤ℤ v
  pub to : v ≤ℤ high
  pub congruent : IsCongruent m v low

-- The least member; 0 of the empty set.
unfoldable pub first_of : Progression → ℤ
first_of empty = pos 0
first_of (single w) = w
first_of (row first gap more) = first

-- The greatest member; 0 of the empty set.
unfoldable pub last_of : Progression → ℤ
last_of empty = pos 0
last_of (single w) = w
last_of (row first gap more) = first +ℤ pos ((more + 1) * (gap + 1))

-- The distance from a member to the next; 0 where there are not two members.
unfoldable pub stride_of : Progression → ℕ
stride_of empty = 0
stride_of (single w) = 0
stride_of (row first gap more) = gap + 1

-- The numbers that a `Strided` and a `Marks` may hold: those from -2^100 to 2^100.
pub record IsInReach (v : ℤ) : Type 0 where
  pub low : neg_ℤ (pos (2 ^ 100)) ≤ℤ v
  pub high : v ≤ℤ pos (2 ^ 100)
