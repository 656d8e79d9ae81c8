-- Rows of lines that belong to keys, one key after the other.
use Rattle.std.specs.Prelude.{◌≡◌, ℕ, List, [], ◌∷◌, ◌++◌}
use Rattle.certificate_words.specs.Words.{Line, line_onto}

-- a text with lines in front
abbrev pub lines_onto : List Line → List ℕ → List ℕ
lines_onto [] text = text
lines_onto (l ∷ ls) text = line_onto l (lines_onto ls text)

-- the number is none of these; and no number is twice in a list
abbrev pub IsNoneOf : ℕ → List ℕ → Type 0
IsNoneOf k [] = Unit {0}
IsNoneOf k (d ∷ ds) = (k ≡ d → ⊥) × IsNoneOf k ds

abbrev pub AreDistinct : List ℕ → Type 0
AreDistinct [] = Unit {0}
AreDistinct (k ∷ ks) = IsNoneOf k ks × AreDistinct ks

-- The lines of what a key has; what it may have; and which texts may stand behind its row.
module _ {Z : Type 0} (row : ℕ → Z → List Line) (Fits : ℕ → Z → Type 0) (After : ℕ → List ℕ → Type 0) where
  -- the row of the key stands in front of the text, and the new text behind it; and no other row of it does
  pub record IsStep (key : ℕ) (old : List ℕ) (z : Z) (new : List ℕ) : Type 0 where
    pub fits : Fits key z
    pub is : old ≡ lines_onto (row key z) new
    pub one : (y : Z) (more : List ℕ) → Fits key y → After key more → old ≡ lines_onto (row key y) more
        → (y ≡ z) × (more ≡ new)

  -- no row of the key stands in front of the text
  pub record IsStuck (key : ℕ) (old : List ℕ) : Type 0 where
    pub never : (y : Z) (more : List ℕ) → Fits key y → After key more → old ≡ lines_onto (row key y) more → ⊥

  -- the rows of keys
  abbrev pub rows : List ℕ → List Z → List Line
  rows [] zs = []
  rows (k ∷ ks) [] = []
  rows (k ∷ ks) (z ∷ zs) = row k z ++ rows ks zs

  -- each key has something that it may have
  abbrev pub AllFit : List ℕ → List Z → Type 0
  AllFit [] [] = Unit {0}
  AllFit [] (z ∷ zs) = ⊥
  AllFit (k ∷ ks) [] = ⊥
  AllFit (k ∷ ks) (z ∷ zs) = Fits k z × AllFit ks zs

  -- the text may stand behind the rows of all keys
  abbrev pub AfterAll : List ℕ → List ℕ → Type 0
  AfterAll [] text = Unit {0}
  AfterAll (k ∷ ks) text = After k text × AfterAll ks text

  -- the rows of the keys stand in front of the text, and the new text behind them; and no other rows of them do
  pub record IsRun (keys : List ℕ) (old : List ℕ) (zs : List Z) (new : List ℕ) : Type 0 where
    pub fits : AllFit keys zs
    pub is : old ≡ lines_onto (rows keys zs) new
    pub one : (ys : List Z) (more : List ℕ) → AllFit keys ys → AfterAll keys more → old ≡ lines_onto (rows keys ys) more
        → (ys ≡ zs) × (more ≡ new)

  -- no rows of the keys stand in front of the text
  pub record IsNoRun (keys : List ℕ) (old : List ℕ) : Type 0 where
    pub never : (ys : List Z) (more : List ℕ) → AllFit keys ys → AfterAll keys more
        → old ≡ lines_onto (rows keys ys) more → ⊥
