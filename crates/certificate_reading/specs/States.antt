-- States by their lines.
use Rattle.std.specs.Prelude.{◌≡◌, ℕ, List, codes, Option, Some, None}
use Rattle.tm_laid.specs.Layouts.{LaidTree}
use Rattle.transfer_rows.specs.StateForms.{State}
use Rattle.temporary_extents.specs.declared.extents.Extent.{Extent}
use Rattle.post_recheck.specs.state_fits.Kinds.{InExtents}
use Rattle.post_recheck.specs.state_fits.Fits.{FitsPlace}
use Rattle.certificate_words.specs.Words.{Word, tag, AreWords, AreLines, words_onto}
use Rattle.certificate_parts.specs.Runs.{lines_onto}
use Rattle.certificate_texts.specs.StateLines.{state_lines}

-- the text does not begin with a line of this tag
pub record IsNotTagged (letters : List ℕ) (text : List ℕ) : Type 0 where
  pub never : (words : List Word) (rest : List ℕ) → AreWords words → text ≡ words_onto (tag letters) words rest → ⊥

-- the text may stand behind a state: it goes on with no line of a state
pub record IsEnd (text : List ℕ) : Type 0 where
  pub pending : IsNotTagged (codes "p") text
  pub fresh : IsNotTagged (codes "f") text
  pub stored : IsNotTagged (codes "s") text
  pub copies : IsNotTagged (codes "k") text

-- the lines of the state stand in front of the text, and the new text behind them; and those of no other state do
pub record IsStateIn (laid : LaidTree) (task : ℕ) (extents : List Extent) (live : List ℕ) (old : List ℕ) (s : State)
    (new : List ℕ) : Type 0 where
  pub fits : FitsPlace laid task (InExtents laid extents) live s
  pub is : old ≡ lines_onto (state_lines s) new
  pub one : (t : State) (more : List ℕ) → FitsPlace laid task (InExtents laid extents) live t → AreLines (state_lines t)
      → IsEnd more → old ≡ lines_onto (state_lines t) more → (t ≡ s) × (more ≡ new)

-- the lines of no state stand in front of the text
pub record HasNoState (laid : LaidTree) (task : ℕ) (extents : List Extent) (live : List ℕ) (old : List ℕ) : Type 0 where
  pub never : (t : State) (more : List ℕ) → FitsPlace laid task (InExtents laid extents) live t → AreLines (state_lines t)
      → IsEnd more → old ≡ lines_onto (state_lines t) more → ⊥

abbrev pub IsReadState : LaidTree → ℕ → List Extent → List ℕ → List ℕ → Option State → List ℕ → Type 0
IsReadState laid task extents live old None new = HasNoState laid task extents live old
IsReadState laid task extents live old (Some s) new = IsStateIn laid task extents live old s new
