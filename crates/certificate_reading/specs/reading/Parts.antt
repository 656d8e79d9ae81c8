-- The six lists between a state and its lines.
use Rattle.std.specs.Prelude.{◌≡◌, ℕ, ◌<◌, ◌^◌, Bool, true, false, cond, codes, List, [], ◌∷◌, ◌++◌, drop, get_or}
use Rattle.std.specs.Prelude.{Option, Some, None}
use Rattle.std.specs.FinMap.{entries}
use Rattle.tm_laid.specs.Layouts.{LaidTree}
use Rattle.pointer_dom.specs.Values.{Values}
use Rattle.transfer_rows.specs.StateForms.{Temp, Cell, State}
use Rattle.edge_actions.specs.Layouts.{is_shared_cell}
use Rattle.temporary_extents.specs.declared.extents.Extent.{Extent}
use Rattle.post_recheck.specs.state_fits.Kinds.{InExtents}
use Rattle.certificate_words.specs.Words.{Line, AreLines}
use Rattle.certificate_parts.specs.declared.rows.Allowed.TheVariants.{Within}
use Rattle.certificate_parts.specs.Runs.{lines_onto, rows, AllFit}
use Rattle.certificate_parts.specs.Rows.{mark_row, AnyMark, mark_after}
use Rattle.certificate_parts.specs.Numbers.{number_row, FitsNumber, number_after}
use Rattle.certificate_reading.specs.Rows.{value_row, FitsRow, AnyText}
use Rattle.certificate_reading.specs.States.{IsEnd}
use Rattle.certificate_reading.specs.declared.shapes.Shape.{Shape}

-- Of each live temporary its value; of each cell that is seen its own value; of each shared one what is pending; of each
-- that is seen whether it is fresh; of each local one whether it is stored; and of each live temporary its copy.
pub record Parts : Type 0 where
  pub temps : List Values
  pub cells : List Values
  pub pending : List (Option ℕ)
  pub fresh : List Bool
  pub stored : List Bool
  pub copies : List (Option ℕ)

-- ## Their lines

-- the key may have this number, which has a mark, or none
abbrev pub FitsMarked : List Bool → ℕ → Option ℕ → Type 0
FitsMarked marks key None = key < 2 ^ 64
FitsMarked marks key (Some n) = (key < 2 ^ 64) × (n < 2 ^ 64) × (get_or marks n false ≡ true)

module _ (laid : LaidTree) (extents : List Extent) (shape : Shape) (live : List ℕ) where
  abbrev pub temp_rows : List Values → List Line
  temp_rows = rows (value_row (codes "t")) (FitsRow (InExtents laid extents)) AnyText live

  abbrev pub cell_rows : List Values → List Line
  cell_rows = rows (value_row (codes "c")) (FitsRow (InExtents laid shape.kinds.items)) AnyText shape.seen.items

  abbrev pub pending_rows : List (Option ℕ) → List Line
  pending_rows = rows (number_row (codes "p")) (FitsNumber (Within shape.mask)) (number_after (codes "p"))
      shape.shared.items

  abbrev pub fresh_rows : List Bool → List Line
  fresh_rows = rows (mark_row (codes "f")) AnyMark (mark_after (codes "f")) shape.seen.items

  abbrev pub stored_rows : List Bool → List Line
  stored_rows = rows (mark_row (codes "s")) AnyMark (mark_after (codes "s")) shape.local.items

  abbrev pub copy_rows : List (Option ℕ) → List Line
  copy_rows = rows (number_row (codes "k")) (FitsMarked shape.marks.items) (number_after (codes "k")) live

  abbrev pub part_lines : Parts → List Line
  part_lines q = temp_rows q.temps ++ (cell_rows q.cells ++ (pending_rows q.pending ++ (fresh_rows q.fresh ++ (stored_rows
      q.stored ++ copy_rows q.copies))))

  -- ## What may stand in them

  abbrev pub FitTemps : List Values → Type 0
  FitTemps = AllFit (value_row (codes "t")) (FitsRow (InExtents laid extents)) AnyText live

  abbrev pub FitCells : List Values → Type 0
  FitCells = AllFit (value_row (codes "c")) (FitsRow (InExtents laid shape.kinds.items)) AnyText shape.seen.items

  abbrev pub FitPending : List (Option ℕ) → Type 0
  FitPending = AllFit (number_row (codes "p")) (FitsNumber (Within shape.mask)) (number_after (codes "p"))
      shape.shared.items

  abbrev pub FitFresh : List Bool → Type 0
  FitFresh = AllFit (mark_row (codes "f")) AnyMark (mark_after (codes "f")) shape.seen.items

  abbrev pub FitStored : List Bool → Type 0
  FitStored = AllFit (mark_row (codes "s")) AnyMark (mark_after (codes "s")) shape.local.items

  abbrev pub FitCopies : List (Option ℕ) → Type 0
  FitCopies = AllFit (number_row (codes "k")) (FitsMarked shape.marks.items) (number_after (codes "k")) live

  pub record FitParts (q : Parts) : Type 0 where
    pub temps : FitTemps q.temps
    pub cells : FitCells q.cells
    pub pending : FitPending q.pending
    pub fresh : FitFresh q.fresh
    pub stored : FitStored q.stored
    pub copies : FitCopies q.copies

  -- their lines stand in front of the text, and the new text behind them; and those of no other lists do
  pub record ArePartsIn (old : List ℕ) (q : Parts) (new : List ℕ) : Type 0 where
    pub fits : FitParts q
    pub is : old ≡ lines_onto (part_lines q) new
    pub one : (r : Parts) (more : List ℕ) → FitParts r → AreLines (part_lines r) → IsEnd more
        → old ≡ lines_onto (part_lines r) more → (r ≡ q) × (more ≡ new)

  -- the lines of no lists stand in front of the text
  pub record HasNoParts (old : List ℕ) : Type 0 where
    pub never : (r : Parts) (more : List ℕ) → FitParts r → AreLines (part_lines r) → IsEnd more
        → old ≡ lines_onto (part_lines r) more → ⊥

-- ## The state of these lists

abbrev pub temps_of : List ℕ → List Values → List (Option ℕ) → List (ℕ × Temp)
temps_of [] vs cs = []
temps_of (t ∷ ts) [] cs = []
temps_of (t ∷ ts) (v ∷ vs) [] = []
temps_of (t ∷ ts) (v ∷ vs) (c ∷ cs) = (t, record { value = v; copy = c }) ∷ temps_of ts vs cs

-- the number of none is the empty set
abbrev pub or_none : Option ℕ → ℕ
or_none None = 0
or_none (Some n) = n

abbrev pub shared_cell : Values → Option ℕ → Bool → Cell
shared_cell v p f = record { value = v; pending = or_none p; fresh = f; stored = false }

abbrev pub local_cell : Values → Bool → Bool → Cell
local_cell v f s = record { value = v; pending = 0; fresh = f; stored = s }

-- what is pending is told of shared cells alone, and whether it is stored of the others
abbrev pub cells_of : (ℕ → Bool) → List ℕ → List Values → List (Option ℕ) → List Bool → List Bool → List (ℕ × Cell)
cells_of shared [] vs ps fs ss = []
cells_of shared (x ∷ xs) [] ps fs ss = []
cells_of shared (x ∷ xs) (v ∷ vs) ps [] ss = []
cells_of shared (x ∷ xs) (v ∷ vs) ps (f ∷ fs) ss = cond (shared x)
    ((x, shared_cell v (get_or ps 0 None) f) ∷ cells_of shared xs vs (drop 1 ps) fs ss)
    ((x, local_cell v f (get_or ss 0 false)) ∷ cells_of shared xs vs ps fs (drop 1 ss))

-- the entries of the state are those of the lists
pub record IsOfParts (laid : LaidTree) (shape : Shape) (live : List ℕ) (q : Parts) (s : State) : Type 0 where
  pub temps : entries s.temps ≡ temps_of live q.temps q.copies
  pub cells : entries s.cells
      ≡ cells_of (is_shared_cell laid) shape.seen.items q.cells q.pending q.fresh q.stored
