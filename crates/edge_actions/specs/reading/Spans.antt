-- The cells that the offsets of a pointer reach in one object.
use Rattle.std.specs.Prelude.{ℕ, zero, suc, ◌<◌, ◌≤◌, pos, cond, List, [], ◌∷◌, ◌++◌}
use Rattle.strided_dom.specs.Progression.{Progression, Has}
use Rattle.tm_typed.specs.declared.types.Scalar.{Scalar}
use Rattle.tm_laid.specs.Layouts.{LaidTree, cell_at, cell_of, abstract_of, is_same_scalar}
use Rattle.transfer_rows.specs.Accesses.{has_number}

-- the abstract cell at an offset of an object, where the cell there has the type
abbrev pub cell_of_type : LaidTree → Scalar → ℕ → ℕ → List ℕ
cell_of_type laid scalar object offset =
    cond (is_same_scalar (cell_at laid (cell_of laid object offset)).scalar scalar) (abstract_of laid object offset ∷
    [])
    []

-- those at the offsets of the set below a number
abbrev pub cells_led : LaidTree → Scalar → ℕ → Progression → ℕ → List ℕ
cells_led laid scalar object offsets zero = []
cells_led laid scalar object offsets (suc offset) = cells_led laid scalar object offsets offset ++
    cond (has_number offsets (pos offset)) (cell_of_type laid scalar object offset) []

-- the offsets of the set below the number lie from the first on, before the end
pub record IsSpanOf (offsets : Progression) (cells first end : ℕ) : Type 0 where
  pub ordered : first ≤ end
  pub within : end ≤ cells
  pub before : (k : ℕ) → k < first → Has offsets (pos k) → ⊥
  pub behind : (k : ℕ) → end ≤ k → k < cells → Has offsets (pos k) → ⊥
