-- What is written on a page.
use Rattle.std.specs.Prelude.{◌≡◌, ℕ, List, [], ◌∷◌, ◌++◌, map}
use Rattle.transfer_rows.specs.StateForms.{Cell}
use Rattle.certificate_words.specs.Words.{Word, tag, Line}
use Rattle.certificate_words.specs.Lines.{words_of}
use Rattle.certificate_texts.specs.StateLines.{cell_lines, pending_lines, fresh_lines, stored_lines}
use Rattle.certificate_texts.specs.reading.Cuts.{with_lines}
use Rattle.certificate_texts.specs.declared.pages.Page.{Page}
use Rattle.certificate_texts.specs.declared.cells.CellEntry.{CellEntry}
use Rattle.certificate_texts.specs.declared.cells.Kind.{Kind}
use Rattle.certificate_texts.specs.declared.cells.Kind.TheVariants as Kinds

-- the next line has a tag alone, and the text is as it was
pub record HasBegun (old new : Page) (letters : List ℕ) : Type 0 where
  pub text : new.text.items ≡ old.text.items
  pub words : words_of new.words.items ≡ tag letters ∷ []

-- the next line has these words more, and the text is as it was
pub record HasWords (old new : Page) (more : List Word) : Type 0 where
  pub text : new.text.items ≡ old.text.items
  pub words : words_of new.words.items ≡ words_of old.words.items ++ more

-- the text has these lines more, as far as it goes
pub record HasLines (old new : Page) (more : List Line) : Type 0 where
  pub text : new.text.items ≡ with_lines old.text.items more

-- the text has the next line more
pub record HasEnded (old new : Page) : Type 0 where
  pub text : (line : Line) → words_of old.words.items ≡ line.first ∷ line.rest → HasLines old new (line ∷ [])

-- the lines of one kind about a cell
abbrev pub kind_lines : Kind → ℕ × Cell → List Line
kind_lines Kinds.Own e = cell_lines e
kind_lines Kinds.Pending e = pending_lines e
kind_lines Kinds.Fresh e = fresh_lines e
kind_lines Kinds.Stored e = stored_lines e

-- what is listed of cells, with their numbers
abbrev pub entries_of : List CellEntry → List (ℕ × Cell)
entries_of es = map (λ (e : CellEntry). (e.cell, e.entry.now)) es
