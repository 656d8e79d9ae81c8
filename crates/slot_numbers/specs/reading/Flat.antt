-- Lists that stand one behind another in one list.
use Rattle.std.specs.Prelude.{◌≡◌, ℕ, ◌<◌, ◌≤◌, List, [], ◌∷◌, length, slice_index, slice_range}

-- A list of numbers cut where lists end. The first list begins at the given place, each other where the one before it
-- ends.
abbrev pub cut_from : ℕ → List ℕ → List ℕ → List (List ℕ)
cut_from start [] numbers = []
cut_from start (end ∷ ends) numbers = slice_range numbers start end ∷ cut_from end ends numbers

-- the place where a list begins; at the number of all lists, where one more would
abbrev pub start_of : List ℕ → ℕ → ℕ
start_of ends i = slice_index (0 ∷ ends) i

-- Ends do not fall, none is past the end of the numbers, and the last list ends there.
pub record AreCuts (ends numbers : List ℕ) : Type 0 where
  pub rising : (i : ℕ) → i < length ends → start_of ends i ≤ slice_index ends i
  pub within : (i : ℕ) → i < length ends → slice_index ends i ≤ length numbers
  pub all : start_of ends (length ends) ≡ length numbers
