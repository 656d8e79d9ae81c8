-- What stands in front of a text: its first line, and in front of a line: its first words.
use Rattle.std.specs.Prelude.{◌≡◌, ℕ, ℤ, Bool, true, false, List, [], ◌∷◌}
use Rattle.certificate_words.specs.Words.{Word, tag, number, IsWord, AreWords, Line, IsLine, line_onto, words_onto}
use Rattle.certificate_words.specs.Lines.{HasNoLine}

-- ## Words

-- numbers, and words behind them
abbrev pub numbered_words : List ℤ → List Word → List Word
numbered_words [] more = more
numbered_words (z ∷ zs) more = number z ∷ numbered_words zs more

pub record BeginsWithNoNumber (words : List Word) : Type 0 where
  pub never : (z : ℤ) (more : List Word) → words ≡ number z ∷ more → ⊥

-- the words do not begin with these numbers
pub record IsNotNumbered (words : List Word) (numbers : List ℤ) : Type 0 where
  pub never : (more : List Word) → words ≡ numbered_words numbers more → ⊥

-- the words do not begin with this tag and these numbers
pub record IsNotBegun (words : List Word) (letters : List ℕ) (numbers : List ℤ) : Type 0 where
  pub never : (more : List Word) → words ≡ tag letters ∷ numbered_words numbers more → ⊥

-- ## Lines

-- a text whose first line is of these words, where there is one
abbrev pub ahead_text : Bool → List Word → List ℕ → List ℕ
ahead_text true [] rest = rest
ahead_text true (w ∷ ws) rest = words_onto w ws rest
ahead_text false words rest = rest

-- the words are those of a lawful line; or no line stands in front
abbrev pub IsAhead : Bool → List Word → List ℕ → Type 0
IsAhead true [] rest = ⊥
IsAhead true (w ∷ ws) rest = IsWord w × AreWords ws
IsAhead false words rest = HasNoLine rest

-- the words of the first line of a text; none where it does not begin with a lawful line
pub record IsFrontLine (text : List ℕ) (w : Word) (ws : List Word) : Type 0 where
  pub first : IsWord w
  pub others : AreWords ws
  pub rest : List ℕ
  pub is : text ≡ words_onto w ws rest

abbrev pub AreFront : List ℕ → List Word → Type 0
AreFront text [] = HasNoLine text
AreFront text (w ∷ ws) = IsFrontLine text w ws

-- the new text stands behind the first line of the old one
pub record IsBehind (old new : List ℕ) : Type 0 where
  pub passes : (line : Line) (rest : List ℕ) → IsLine line → old ≡ line_onto line rest → new ≡ rest

-- the text does not begin with the line
pub record IsNotFront (line : Line) (text : List ℕ) : Type 0 where
  pub never : (rest : List ℕ) → IsLine line → text ≡ line_onto line rest → ⊥

-- the line of a tag and numbers
abbrev pub line_of : List ℕ → List ℤ → Line
line_of letters numbers = record { first = tag letters; rest = numbered_words numbers [] }
