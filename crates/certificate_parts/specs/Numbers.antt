-- Lines of a tag, a key and a number.
use Rattle.std.specs.Prelude.{◌≡◌, ℕ, ◌<◌, ◌^◌, pos, bit_or, true, false, List, [], ◌∷◌, get_or, Option, Some, None}
use Rattle.certificate_words.specs.Words.{Word, tag, number, Line, IsLine, line_onto}
use Rattle.certificate_parts.specs.declared.rows.Allowed.{Allowed}
use Rattle.certificate_parts.specs.declared.rows.Allowed.TheVariants.{Within, Marked}
use Rattle.certificate_parts.specs.Fronts.{line_of}

-- a set of mutexes as bits, not empty, within another
pub record IsSomeWithin (set n : ℕ) : Type 0 where
  pub some : n ≡ 0 → ⊥
  pub within : bit_or n set ≡ set

abbrev pub IsAllowed : Allowed → ℕ → Type 0
IsAllowed (Within set) n = IsSomeWithin set n
IsAllowed (Marked marks) n = get_or marks.now n false ≡ true

abbrev pub pair_line : List ℕ → ℕ → ℕ → Line
pair_line letters key n = line_of letters (pos key ∷ pos n ∷ [])

-- the words are the tag, the key and this number, which may stand there; or no such number
pub record IsPair (allowed : Allowed) (words : List Word) (letters : List ℕ) (key n : ℕ) : Type 0 where
  pub is : words ≡ tag letters ∷ number (pos key) ∷ number (pos n) ∷ []
  pub allowed_is : IsAllowed allowed n
  pub small : n < 2 ^ 64

pub record IsNoPair (allowed : Allowed) (words : List Word) (letters : List ℕ) (key : ℕ) : Type 0 where
  pub never : (n : ℕ) → n < 2 ^ 64 → IsAllowed allowed n → words ≡ tag letters ∷ number (pos key) ∷ number (pos n) ∷ []
      → ⊥

-- the line of the number, where there is one
abbrev pub number_row : List ℕ → ℕ → Option ℕ → List Line
number_row letters key None = []
number_row letters key (Some n) = pair_line letters key n ∷ []

abbrev pub FitsNumber : Allowed → ℕ → Option ℕ → Type 0
FitsNumber allowed key None = key < 2 ^ 64
FitsNumber allowed key (Some n) = (key < 2 ^ 64) × (n < 2 ^ 64) × IsAllowed allowed n

-- no line of the tag, the key and a number stands in front
pub record IsNotPair (letters : List ℕ) (key : ℕ) (text : List ℕ) : Type 0 where
  pub never : (n : ℕ) (rest : List ℕ) → IsLine (pair_line letters key n) → text ≡ line_onto (pair_line letters key n) rest
      → ⊥

abbrev pub number_after : List ℕ → ℕ → List ℕ → Type 0
number_after letters key text = IsNotPair letters key text
