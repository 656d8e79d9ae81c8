-- Lines that may stand for a key.
use Rattle.std.specs.Prelude.{ℕ, ◌<◌, ◌^◌, pos, Bool, cond, List, [], ◌∷◌}
use Rattle.certificate_words.specs.Words.{tag, IsWord, Line}
use Rattle.certificate_parts.specs.Fronts.{line_of, IsNotFront}

-- lawful letters of a tag
abbrev pub IsTag : List ℕ → Type 0
IsTag letters = IsWord (tag letters)

-- ## The line of a tag and the key

abbrev pub mark_line : List ℕ → ℕ → Line
mark_line letters key = line_of letters (pos key ∷ [])

abbrev pub mark_row : List ℕ → ℕ → Bool → List Line
mark_row letters key mark = cond mark (mark_line letters key ∷ []) []

abbrev pub AnyMark : ℕ → Bool → Type 0
AnyMark key mark = key < 2 ^ 64

abbrev pub mark_after : List ℕ → ℕ → List ℕ → Type 0
mark_after letters key text = IsNotFront (mark_line letters key) text
