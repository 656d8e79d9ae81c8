-- What is read of stores.
use Rattle.std.specs.Prelude.{◌≡◌, ℕ, List, [], ◌∷◌, ◌++◌, length, codes, Option, Some, None}
use Rattle.tm_laid.specs.Layouts.{LaidTree}
use Rattle.interfere_set.specs.Stores.{Nested, Interferences, IsNested}
use Rattle.post_recheck.specs.state_fits.Fits.{FitsNested, FitsStore}
use Rattle.certificate_words.specs.Words.{Line, AreLines}
use Rattle.certificate_parts.specs.Runs.{lines_onto}
use Rattle.certificate_texts.specs.StateLines.{tagged}
use Rattle.certificate_texts.specs.StoreLines.{nested_lines, store_lines}
use Rattle.certificate_reading.specs.declared.entries.Kind.{Kind}
use Rattle.certificate_reading.specs.declared.entries.Kind.TheVariants.{Weak, Sync}
use Rattle.certificate_reading.specs.Entries.{letters_of, IsUnder, EndsKind}

-- the lines of the entries of one kind stand in front, and the new text behind them; and behind no others another
pub record AreNestedIn (laid : LaidTree) (kind : Kind) (old : List ℕ) (n : Nested) (new : List ℕ) : Type 0 where
  pub form : IsNested n
  pub fits : FitsNested laid (length laid.file.tasks) (IsUnder laid kind) n
  pub is : old ≡ lines_onto (nested_lines (letters_of kind) n) new
  pub one : (m : Nested) (more : List ℕ) → IsNested m → FitsNested laid (length laid.file.tasks) (IsUnder laid kind) m
      → AreLines (nested_lines (letters_of kind) m) → EndsKind kind more
      → old ≡ lines_onto (nested_lines (letters_of kind) m) more → more ≡ new

-- the lines of the store stand in front, and the new text behind them; and behind no others another
pub record IsStoreIn (laid : LaidTree) (old : List ℕ) (store : Interferences) (new : List ℕ) : Type 0 where
  pub fits : FitsStore laid (length laid.file.tasks) store
  pub is : old ≡ lines_onto (store_lines store) new
  pub one : (other : Interferences) (more : List ℕ) → FitsStore laid (length laid.file.tasks) other
      → AreLines (store_lines other) → EndsKind Weak more → EndsKind Sync more
      → old ≡ lines_onto (store_lines other) more → more ≡ new

pub record HasNoStore (laid : LaidTree) (old : List ℕ) : Type 0 where
  pub never : (other : Interferences) (more : List ℕ) → FitsStore laid (length laid.file.tasks) other
      → AreLines (store_lines other) → old ≡ lines_onto (store_lines other) more → ⊥

-- the lines of a store and of the end are the text, and no others
abbrev pub last_lines : Interferences → List Line
last_lines store = store_lines store ++ (tagged (codes "end") [] ∷ [])

abbrev pub IsLastStore : LaidTree → List ℕ → Option Interferences → Type 0
IsLastStore laid text None = (other : Interferences) → FitsStore laid (length laid.file.tasks) other
    → AreLines (last_lines other) → text ≡ lines_onto (last_lines other) [] → ⊥
IsLastStore laid text (Some store) =
    FitsStore laid (length laid.file.tasks) store × (text ≡ lines_onto (last_lines store) [])
