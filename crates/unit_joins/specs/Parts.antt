-- The units of a text. Its first line is `#pragma units N`, where N is their number, and a line `#pragma unit` stands
-- before each and nowhere else.
use Rattle.std.specs.Prelude.{◌≡◌, ℕ, ◌+◌, List, [], ◌∷◌, ◌++◌, length, take, codes, decimal, bytes_eq}
use Rattle.std.specs.Prelude.{if◌then◌else◌}
use Rattle.source_marks.specs.Marks.{lines_of}

-- the number of a line, if it stands before a unit
abbrev pub border_at : ℕ → List ℕ → List ℕ
border_at n line = if bytes_eq line (codes "#pragma unit") then n ∷ [] else []

-- the numbers of the lines that stand before units, where the first line has this number
abbrev pub border_numbers : ℕ → List (List ℕ) → List ℕ
border_numbers n [] = []
border_numbers n (line ∷ lines) = border_at n line ++ border_numbers (n + 1) lines

-- the first line of a text of so many units
abbrev pub head_text : ℕ → List ℕ
head_text n = codes "#pragma units " ++ (decimal n ++ 10 ∷ [])

-- the lines that stand before the units of a text, counted from 1
pub record AreBorders (units borders : List ℕ) : Type 0 where
  pub lines : borders ≡ border_numbers 1 (lines_of units)
  pub counted : take (length (head_text (length borders))) units ≡ head_text (length borders)
