-- Offsets in an object, which is flattened into its scalar cells in order.
use Rattle.std.specs.Prelude.{ℕ, List, ℤ, pos, ◌≤ℤ◌}
use Rattle.strided_dom.specs.Progression.{Progression, Has}
use Rattle.strided_dom.specs.Rounding.{IsInRounding}

-- v is an offset in an object of this many cells: from 0 to the size, one past the last cell included (C99 6.5.6).
pub record IsOffset (size : ℕ) (v : ℤ) : Type 0 where
  pub from : pos 0 ≤ℤ v
  pub to : v ≤ℤ pos size

-- v is an offset in the object, and a member of s.
pub record IsOffsetAmong (size : ℕ) (s : Progression) (v : ℤ) : Type 0 where
  pub member : Has s v
  pub offset : IsOffset size v

-- v is an offset in the object, and in the rounding of s.
pub record IsInRoundingWithin (size : ℕ) (marks : List ℤ) (s : Progression) (v : ℤ) : Type 0 where
  pub rounding : IsInRounding marks s v
  pub offset : IsOffset size v
