-- What the code notes of objects by the bounds of their cells: the least and the greatest of their ends.
use Rattle.std.specs.Prelude.{◌≡◌, ◌⊎◌, ℕ, ℤ, ◌≤ℤ◌, List, length, Some, None}
use Rattle.tm_laid.specs.Layouts.{LaidTree}
use Rattle.value_ranges.specs.Ranges.{IsIntegerCell}
use Rattle.value_ranges.specs.reading.Notes.{Noted, noted_at, IsWidened, Below}

-- no bounds are empty
abbrev pub IsProper : Noted → Type 0
IsProper None = Unit {0}
IsProper (Some b) = b.low ≤ℤ b.high

abbrev pub AreProper : List Noted → Type 0
AreProper cells = (x : ℕ) → IsProper (noted_at cells x)

-- the number is an end of what is noted
abbrev pub IsEnd : Noted → ℤ → Type 0
IsEnd None n = ⊥
IsEnd (Some b) n = (n ≡ b.low) ⊎ (n ≡ b.high)

-- an end of the bounds of a cell of the object
abbrev pub IsEndOf : LaidTree → List Noted → ℕ → ℤ → ℕ → Type 0
IsEndOf laid cells object n x = IsIntegerCell laid object x × IsEnd (noted_at cells x) n

-- nothing was noted before, and what is noted is widened by the ends of the first cells
pub record AreOfFirst (laid : LaidTree) (cells : List Noted) (i : ℕ) (noted : List Noted) : Type 0 where
  pub count : length noted ≡ length laid.objects
  pub each : (object : ℕ) → IsWidened (λ n. Below (IsEndOf laid cells object n) i) object None (noted_at noted object)

-- by those of all cells
abbrev pub AreOfCells : LaidTree → List Noted → List Noted → Type 0
AreOfCells laid cells noted = AreOfFirst laid cells (length cells) noted
