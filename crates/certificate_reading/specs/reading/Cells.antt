-- The cells of a state, as they are read, and as they are kept for the next state.
use Rattle.std.specs.Prelude.{◌≡◌, ℕ, Bool, codes, List, [], ◌++◌, Option, Some, None}
use Rattle.std.specs.FinMap.{get, entries}
use Rattle.tm_lattice.specs.Tables.{Table}
use Rattle.tm_laid.specs.Layouts.{LaidTree}
use Rattle.interfere_set.specs.laws.Joins.{IsOf}
use Rattle.pointer_dom.specs.Values.{Values}
use Rattle.transfer_rows.specs.StateForms.{Cell}
use Rattle.edge_actions.specs.Layouts.{is_shared_cell}
use Rattle.post_recheck.specs.state_fits.Kinds.{InExtents}
use Rattle.certificate_words.specs.Words.{Line}
use Rattle.certificate_parts.specs.declared.rows.Allowed.TheVariants.{Within}
use Rattle.certificate_parts.specs.Runs.{lines_onto, rows, AllFit, IsRun, IsNoRun}
use Rattle.certificate_parts.specs.Rows.{mark_row, AnyMark, mark_after}
use Rattle.certificate_parts.specs.Numbers.{number_row, FitsNumber, number_after}
use Rattle.certificate_reading.specs.Rows.{value_row, FitsRow, AnyText}
use Rattle.certificate_reading.specs.States.{IsNotTagged}
use Rattle.certificate_reading.specs.declared.shapes.Shape.{Shape}
use Rattle.certificate_reading.specs.declared.assembled.Marks.{Marks}
use Rattle.certificate_reading.specs.declared.kept.Kept.{Kept}
use Rattle.certificate_reading.specs.reading.Parts.{cells_of}
use Rattle.certificate_reading.specs.reading.KeptRows.{AreKeptRows}

-- a cell of a value and marks
abbrev pub cell_with : Values → Marks → Cell
cell_with v m = record { value = v; pending = m.pending; fresh = m.fresh; stored = m.stored }

-- each cell of the table is one of these
abbrev pub AreSeen : List ℕ → Table Cell → Type 0
AreSeen seen cells = (x : ℕ) (c : Cell) → get cells x ≡ Some c → IsOf seen x

-- the text goes on with no line of what is pending in a cell, nor of one that is fresh or stored
pub record EndsCells (text : List ℕ) : Type 0 where
  pub pending : IsNotTagged (codes "p") text
  pub fresh : IsNotTagged (codes "f") text
  pub stored : IsNotTagged (codes "s") text

-- Of each cell that is seen its own value; of each shared one what is pending; of each that is seen whether it is fresh;
-- and of each local one whether it is stored.
pub record CellLists : Type 0 where
  pub values : List Values
  pub pending : List (Option ℕ)
  pub fresh : List Bool
  pub stored : List Bool

module _ (laid : LaidTree) (shape : Shape) where
  -- ## What is read

  abbrev pub IsRunOfValues : List ℕ → List Values → List ℕ → Type 0
  IsRunOfValues old vs new =
      IsRun (value_row (codes "c")) (FitsRow (InExtents laid shape.kinds.items)) AnyText shape.seen.items old vs new

  abbrev pub IsRunOfPending : List ℕ → List (Option ℕ) → List ℕ → Type 0
  IsRunOfPending old ps new =
      IsRun (number_row (codes "p")) (FitsNumber (Within shape.mask)) (number_after (codes "p")) shape.shared.items old ps
      new

  abbrev pub IsRunOfFresh : List ℕ → List Bool → List ℕ → Type 0
  IsRunOfFresh old fs new = IsRun (mark_row (codes "f")) AnyMark (mark_after (codes "f")) shape.seen.items old fs new

  abbrev pub IsRunOfStored : List ℕ → List Bool → List ℕ → Type 0
  IsRunOfStored old ss new = IsRun (mark_row (codes "s")) AnyMark (mark_after (codes "s")) shape.local.items old ss new

  -- the cells are those of the lists
  abbrev pub AreCellsOf : CellLists → Table Cell → Type 0
  AreCellsOf q cells =
      entries cells ≡ cells_of (is_shared_cell laid) shape.seen.items q.values q.pending q.fresh q.stored

  -- the lines of these cells stand in front of the text, and the new text behind them; and those of no others do
  pub record AreCellsIn (old : List ℕ) (cells : Table Cell) (new : List ℕ) : Type 0 where
    pub lists : CellLists
    pub behind_values : List ℕ
    pub behind_pending : List ℕ
    pub behind_fresh : List ℕ
    pub values : IsRunOfValues old lists.values behind_values
    pub pending : IsRunOfPending behind_values lists.pending behind_pending
    pub fresh : IsRunOfFresh behind_pending lists.fresh behind_fresh
    pub stored : IsRunOfStored behind_fresh lists.stored new
    pub are : AreCellsOf lists cells

  -- the cells have been read; or the value of one is missing
  abbrev pub AreReadCells : List ℕ → Option (Table Cell) → List ℕ → Type 0
  AreReadCells old None new =
      IsNoRun (value_row (codes "c")) (FitsRow (InExtents laid shape.kinds.items)) AnyText shape.seen.items old
  AreReadCells old (Some cells) new = AreCellsIn old cells new

  -- ## What is kept

  abbrev pub value_lines : CellLists → List Line
  value_lines q = rows (value_row (codes "c")) (FitsRow (InExtents laid shape.kinds.items)) AnyText shape.seen.items q.values

  abbrev pub pending_lines : CellLists → List Line
  pending_lines q =
      rows (number_row (codes "p")) (FitsNumber (Within shape.mask)) (number_after (codes "p")) shape.shared.items q.pending

  abbrev pub fresh_lines : CellLists → List Line
  fresh_lines q = rows (mark_row (codes "f")) AnyMark (mark_after (codes "f")) shape.seen.items q.fresh

  abbrev pub stored_lines : CellLists → List Line
  stored_lines q = rows (mark_row (codes "s")) AnyMark (mark_after (codes "s")) shape.local.items q.stored

  abbrev pub cells_lines : CellLists → List Line
  cells_lines q = value_lines q ++ (pending_lines q ++ (fresh_lines q ++ stored_lines q))

  -- Cells that were read from some text, and the text of their lines alone. That no other values have the lines of these
  -- is known of the text from which they were read.
  pub record AreKept (text : List ℕ) (cells : Table Cell) : Type 0 where
    pub lists : CellLists
    pub before : List ℕ
    pub behind : List ℕ
    pub values : IsRunOfValues before lists.values behind
    pub pending : AllFit (number_row (codes "p")) (FitsNumber (Within shape.mask)) (number_after (codes "p"))
        shape.shared.items lists.pending
    pub fresh : AllFit (mark_row (codes "f")) AnyMark (mark_after (codes "f")) shape.seen.items lists.fresh
    pub stored : AllFit (mark_row (codes "s")) AnyMark (mark_after (codes "s")) shape.local.items lists.stored
    pub is : text ≡ lines_onto (cells_lines lists) []
    pub are : AreCellsOf lists cells

  -- where there is a text, it is that of the cells; each of these is seen; and lines of cells have their values
  pub record IsKept (kept : Kept) : Type 0 where
    pub known : (kept.text.now ≡ [] → ⊥) → AreKept kept.text.now kept.cells
    pub seen : AreSeen shape.seen.items kept.cells
    pub rows : AreKeptRows laid shape.kinds.items kept.rows.items

-- the text begins with what is kept, which is not empty, and ends the cells behind it
pub record IsKeptFront (kept text more : List ℕ) : Type 0 where
  pub some : kept ≡ [] → ⊥
  pub is : text ≡ kept ++ more
  pub ends : EndsCells more
