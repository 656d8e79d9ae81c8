-- Lines of values of cells, each with its bytes, that are read again.
use Rattle.std.specs.Prelude.{◌≡◌, ℕ, List, [], ◌∷◌, ◌++◌, codes, Option, Some, None}
use Rattle.tm_laid.specs.Layouts.{LaidTree}
use Rattle.pointer_dom.specs.Values.{Values}
use Rattle.temporary_extents.specs.declared.extents.Extent.{Extent}
use Rattle.post_recheck.specs.state_fits.Kinds.{InExtents}
use Rattle.certificate_parts.specs.Runs.{IsStep, IsStuck, IsRun, IsNoRun}
use Rattle.certificate_reading.specs.Rows.{value_row, FitsRow, AnyText}
use Rattle.certificate_reading.specs.declared.kept_rows.KeptRow.{KeptRow}
use Rattle.certificate_reading.specs.declared.kept_rows.ReadRow.{ReadRow}
use Rattle.certificate_reading.specs.declared.kept_rows.ReadRows.{ReadRows}

abbrev pub values_of : List KeptRow → List Values
values_of [] = []
values_of (r ∷ rs) = r.value ∷ values_of rs

-- the text begins with the bytes of the kept line, which is one of the cell
pub record IsTakenOver (text : List ℕ) (cell : ℕ) (kept : Option KeptRow) (found : ReadRow) : Type 0 where
  pub kept_is : kept ≡ Some found.row
  pub of_cell : found.row.cell ≡ cell
  pub is : text ≡ found.row.line.now ++ found.more.now

module _ (laid : LaidTree) (extents : List Extent) where
  -- the value is what the text of the line alone tells of the cell
  abbrev pub IsKeptRow : KeptRow → Type 0
  IsKeptRow r = IsStep (value_row (codes "c")) (FitsRow (InExtents laid extents)) AnyText r.cell r.line.now r.value []

  abbrev pub AreKeptRows : List KeptRow → Type 0
  AreKeptRows [] = Unit {0}
  AreKeptRows (r ∷ rs) = IsKeptRow r × AreKeptRows rs

  -- the line of the cell has been read, and may be kept; or none stands there
  abbrev pub IsReadAgain : ℕ → List ℕ → Option ReadRow → Type 0
  IsReadAgain cell text None = IsStuck (value_row (codes "c")) (FitsRow (InExtents laid extents)) AnyText cell text
  IsReadAgain cell text (Some r) =
      IsStep (value_row (codes "c")) (FitsRow (InExtents laid extents)) AnyText cell text r.row.value r.more.now
      × IsKeptRow r.row

  -- those of all cells; or one is missing
  abbrev pub AreReadAgain : List ℕ → List ℕ → Option ReadRows → Type 0
  AreReadAgain cells text None =
      IsNoRun (value_row (codes "c")) (FitsRow (InExtents laid extents)) AnyText cells text
  AreReadAgain cells text (Some r) =
      IsRun (value_row (codes "c")) (FitsRow (InExtents laid extents)) AnyText cells text (values_of r.rows.items) r.more.now
      × AreKeptRows r.rows.items
