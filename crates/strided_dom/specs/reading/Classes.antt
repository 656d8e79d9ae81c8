-- What the code of rounding speaks of: where a value splits the marks, and numbers of one class from a bound on.
use Rattle.std.specs.Prelude.{ℕ, ◌<◌, ◌≤◌, List, length, slice_index_or, ℤ, ◌≤ℤ◌, ◌<ℤ◌}
use Rattle.tm_numbers.specs.Congruence.{IsCongruent}

-- The marks before the n-th are at most v, and the others are above v.
pub record IsSplitAt (marks : List ℤ) (v : ℤ) (n : ℕ) : Type 0 where
  pub within : n ≤ length marks
  pub before : (k : ℕ) (d : ℤ) → k < n → slice_index_or marks k d ≤ℤ v
  pub after : (k : ℕ) (d : ℤ) → n ≤ k → k < length marks → v <ℤ slice_index_or marks k d

-- v is at least low, and congruent to lo modulo m.
pub record IsInClass (low lo : ℤ) (m : ℕ) (v : ℤ) : Type 0 where
  pub from : low ≤ℤ v
  pub congruent : IsCongruent m v lo

-- v lies from low to high, and is congruent to lo modulo m.
pub record IsInClassBetween (low high lo : ℤ) (m : ℕ) (v : ℤ) : Type 0 where
  pub from : low ≤ℤ v
  pub to : v ≤ℤ high
  pub congruent : IsCongruent m v lo
