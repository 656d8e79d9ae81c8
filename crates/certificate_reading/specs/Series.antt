-- Rows of lines by rising numbers, one for each number from 0 on.
use Rattle.std.specs.Prelude.{◌≡◌, ℕ, ◌+◌, List, [], ◌∷◌, length}
use Rattle.std.specs.List.{flat_map, enumerate_from}
use Rattle.certificate_words.specs.Words.{Line, AreLines}
use Rattle.certificate_parts.specs.Runs.{lines_onto}

-- The lines of what a number has; what it may have; which texts may stand behind its row, and behind all rows.
module _ {Z : Type 0} (row : ℕ → Z → List Line) (Fits : ℕ → Z → Type 0) (After : ℕ → List ℕ → Type 0)
    (End : List ℕ → Type 0) where
  -- the row of a number stands in front, and the new text behind it; and behind no other row of it another
  pub record IsRowIn (k : ℕ) (old : List ℕ) (z : Z) (new : List ℕ) : Type 0 where
    pub fits : Fits k z
    pub is : old ≡ lines_onto (row k z) new
    pub one : (y : Z) (more : List ℕ) → Fits k y → AreLines (row k y) → After k more → old ≡ lines_onto (row k y) more
        → more ≡ new

  -- no row of the number stands in front
  pub record HasNoRow (k : ℕ) (old : List ℕ) : Type 0 where
    pub never : (y : Z) (more : List ℕ) → Fits k y → AreLines (row k y) → After k more → old ≡ lines_onto (row k y) more
        → ⊥

  -- the rows of what the numbers from this one on have
  abbrev pub rows_from : ℕ → List Z → List Line
  rows_from k zs = flat_map (λ e. row e.0 e.1) (enumerate_from k zs)

  abbrev pub AllFit : ℕ → List Z → Type 0
  AllFit k [] = Unit {0}
  AllFit k (z ∷ zs) = Fits k z × AllFit (k + 1) zs

  -- so many rows stand in front, and the new text behind them; and behind no others another
  pub record AreRowsIn (count : ℕ) (old : List ℕ) (zs : List Z) (new : List ℕ) : Type 0 where
    pub counted : length zs ≡ count
    pub fits : AllFit 0 zs
    pub is : old ≡ lines_onto (rows_from 0 zs) new
    pub one : (ys : List Z) (more : List ℕ) → length ys ≡ count → AllFit 0 ys → AreLines (rows_from 0 ys) → End more
        → old ≡ lines_onto (rows_from 0 ys) more → more ≡ new

  -- so many rows do not stand in front
  pub record HasNoRows (count : ℕ) (old : List ℕ) : Type 0 where
    pub never : (ys : List Z) (more : List ℕ) → length ys ≡ count → AllFit 0 ys → AreLines (rows_from 0 ys) → End more
        → old ≡ lines_onto (rows_from 0 ys) more → ⊥
