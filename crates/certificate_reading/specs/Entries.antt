-- Entries of stores and their lines.
use Rattle.std.specs.Prelude.{◌≡◌, ℕ, ◌+◌, ◌*◌, ◌<◌, ◌^◌, pos, true, List, ◌∷◌, length, codes}
use Rattle.tm_laid.specs.Layouts.{LaidTree, abstract_at}
use Rattle.pointer_dom.specs.Values.{no_value}
use Rattle.cell_env.specs.Cells.{IsWithin}
use Rattle.edge_actions.specs.Layouts.{is_shared_cell}
use Rattle.post_recheck.specs.temporary_types.Sorts.{IsMutex}
use Rattle.post_recheck.specs.typed_values.Types.{IsOfType}
use Rattle.post_recheck.specs.state_fits.Fits.{file_set}
use Rattle.certificate_words.specs.Words.{Word, tag, number, Line, IsLine, line_onto}
use Rattle.certificate_texts.specs.ValueWords.{value_words}
use Rattle.certificate_texts.specs.StateLines.{tagged}
use Rattle.certificate_reading.specs.States.{IsNotTagged}
use Rattle.certificate_reading.specs.declared.entries.Place.{Place}
use Rattle.certificate_reading.specs.declared.entries.Entry.{Entry}
use Rattle.certificate_reading.specs.declared.entries.Kind.{Kind}
use Rattle.certificate_reading.specs.declared.entries.Kind.TheVariants.{Weak, Sync}

-- w or y
abbrev pub letters_of : Kind → List ℕ
letters_of Weak = codes "w"
letters_of Sync = codes "y"

-- a set of mutexes of the file, or one of them
abbrev pub IsUnder : LaidTree → Kind → ℕ → Type 0
IsUnder laid Weak l = IsWithin l (file_set laid)
IsUnder laid Sync l = IsMutex laid l

-- the place of an entry: its task, its set of mutexes or its mutex, and its cell, which is shared
pub record IsPlace (laid : LaidTree) (kind : Kind) (p : Place) : Type 0 where
  pub task : p.task < length laid.file.tasks
  pub set : IsUnder laid kind p.set
  pub cell : p.cell < length laid.abstract_cells
  pub shared : is_shared_cell laid p.cell ≡ true

-- an entry has a value of the type of its cell
pub record IsEntry (laid : LaidTree) (kind : Kind) (e : Entry) : Type 0 where
  pub place : IsPlace laid kind e.place
  pub value : (let a = abstract_at laid e.place.cell in IsOfType laid a.scalar e.value)
  pub some : e.value ≡ no_value → ⊥

-- ## Order

-- places by task, then by set, then by cell; sets and cells are below 65536
abbrev pub place_number : Place → ℕ
place_number p = (p.task * 65536 + p.set) * 65536 + p.cell

pub record IsSmall (p : Place) : Type 0 where
  pub set : p.set < 65536
  pub cell : p.cell < 65536

-- ## Lines

-- the words of a place in front of others
abbrev pub place_words : Place → List Word → List Word
place_words p words = number (pos p.task) ∷ number (pos p.set) ∷ number (pos p.cell) ∷ words

abbrev pub entry_words : List ℕ → Entry → List Word
entry_words letters e = tag letters ∷ place_words e.place (value_words e.value)

abbrev pub entry_line : List ℕ → Entry → Line
entry_line letters e = tagged letters (place_words e.place (value_words e.value))

-- an entry by the number of its place, and a text with its line in front
abbrev pub entry_onto : Kind → ℕ × Entry → List ℕ → List ℕ
entry_onto kind e text = line_onto (entry_line (letters_of kind) e.1) text

pub record IsNumbered (laid : LaidTree) (kind : Kind) (e : ℕ × Entry) : Type 0 where
  pub is : e.0 ≡ place_number e.1.place
  pub entry : IsEntry laid kind e.1
  pub small : IsSmall e.1.place
  pub lawful : IsLine (entry_line (letters_of kind) e.1)

-- the text goes on with no entry of the kind
abbrev pub EndsKind : Kind → List ℕ → Type 0
EndsKind kind text = IsNotTagged (letters_of kind) text

-- ## Words of one line

pub record BeginsWithNoNatural (words : List Word) : Type 0 where
  pub never : (n : ℕ) (more : List Word) → n < 2 ^ 32 → words ≡ number (pos n) ∷ more → ⊥

pub record BeginsWithNoPlace (words : List Word) : Type 0 where
  pub never : (p : Place) (more : List Word) → p.task < 2 ^ 32 → p.set < 2 ^ 32 → p.cell < 2 ^ 32
      → words ≡ place_words p more → ⊥

-- the words are those of the entry, and of no other
pub record AreEntryWords (laid : LaidTree) (kind : Kind) (words : List Word) (e : Entry) : Type 0 where
  pub entry : IsEntry laid kind e
  pub is : words ≡ entry_words (letters_of kind) e
  pub one : (f : Entry) → IsEntry laid kind f → words ≡ entry_words (letters_of kind) f → f ≡ e

pub record HasNoEntryWords (laid : LaidTree) (kind : Kind) (words : List Word) : Type 0 where
  pub never : (f : Entry) → IsEntry laid kind f → words ≡ entry_words (letters_of kind) f → ⊥
