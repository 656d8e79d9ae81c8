-- A state is read by its lists.
use Rattle.std.proofs.Common.{◌≡◌, sym, ap, subst, ◌∙◌, ℕ, zero, suc, ◌≤◌, ◌^◌, List, [], ◌∷◌, length, arith}
use Rattle.std.proofs.Common.{Option, Some, None}
use Rattle.std.specs.Prelude.{bit_or, codes}
use Rattle.std.specs.List.{All}
use Rattle.std.proofs.lemmas.Nat.{le_or_l}
use Rattle.tm_laid.specs.Layouts.{LaidTree}
use Rattle.std.specs.FinMap.{entries}
use Rattle.tm_lattice.specs.Tables.{Table}
use Rattle.pointer_dom.specs.Values.{Values}
use Rattle.transfer_rows.specs.StateForms.{Cell, State}
use Rattle.post_recheck.specs.state_fits.Fits.{file_set}
use Rattle.post_recheck.specs.state_fits.Kinds.{InExtents}
use Rattle.temporary_extents.specs.declared.extents.Extent.{Extent}
use Rattle.post_recheck.specs.state_fits.laws.FileSets.{in_sixteen}
use Rattle.certificate_words.specs.Words.{Line, AreLines}
use Rattle.certificate_parts.specs.declared.rows.Allowed.TheVariants.{Within}
use Rattle.certificate_parts.specs.Numbers.{number_row, FitsNumber, number_after}
use Rattle.certificate_parts.specs.Runs.{lines_onto, AllFit, IsRun, IsNoRun}
use Rattle.certificate_reading.specs.Rows.{value_row, FitsRow, AnyText}
use Rattle.certificate_reading.specs.States.{IsStateIn, HasNoState}
use Rattle.certificate_reading.specs.declared.shapes.Shape.{Shape}
use Rattle.certificate_reading.specs.reading.Shapes.{IsShape, RiseFrom}
use Rattle.certificate_reading.specs.reading.Bounds.{IsUnder, AreUnder}
use Rattle.certificate_reading.specs.reading.Parts.{Parts, FitsMarked, ArePartsIn, HasNoParts, IsOfParts, temps_of}
use Rattle.certificate_reading.specs.reading.Cells.{IsRunOfPending, AreCellsIn}
use Rattle.certificate_reading.proofs.StateLists.{state_parts}
use Rattle.certificate_reading.proofs.StateRuns.{no_temps, no_cells, parts_are}
use Rattle.certificate_reading.proofs.StateParts.{of_state, parts_fit, lines_of, fits_place, one_state}

-- ## Bounds of numbers

-- what holds of all that may stand in a row holds of those that stand there
all_hold : {Z : Type 0} (row : ℕ → Z → List Line) (Fits : ℕ → Z → Type 0) (After : ℕ → List ℕ → Type 0) (P : Z → Type 0)
    → ((k : ℕ) (z : Z) → Fits k z → P z) → (keys : List ℕ) (zs : List Z) → AllFit row Fits After keys zs → All P zs
all_hold row Fits After P each [] [] h k d l = absurd (omega (arith, l))
all_hold row Fits After P each [] (z ∷ zs) h k d l = absurd h
all_hold row Fits After P each (x ∷ xs) [] h k d l = absurd h
all_hold row Fits After P each (x ∷ xs) (z ∷ zs) h zero d l = each x z h.0
all_hold row Fits After P each (x ∷ xs) (z ∷ zs) h (suc k) d l =
    all_hold row Fits After P each xs zs h.1 k d (omega (arith, l))

module _ (laid : LaidTree) (shape : Shape) where
  set_under : shape.mask ≡ file_set laid → (key : ℕ) (p : Option ℕ) → FitsNumber (Within shape.mask) key p
      → IsUnder (2 ^ 16) p
  set_under mask key None h = tt
  set_under mask key (Some n) h =
      let within : bit_or n 65535 ≡ 65535 =
      in_sixteen laid n (subst (λ m. bit_or n m ≡ m) mask h.2.within) in
      let le = le_or_l n 65535 in
      omega (arith, within, le)

  pub sets_under : shape.mask ≡ file_set laid → (old new : List ℕ) (ps : List (Option ℕ))
      → IsRunOfPending laid shape old ps new → AreUnder (2 ^ 16) ps
  sets_under mask old new ps run =
      all_hold (number_row (codes "p")) (FitsNumber (Within shape.mask)) (number_after (codes "p")) (IsUnder (2 ^ 16))
      (set_under mask) shape.shared.items ps run.fits

  module _ (task : ℕ) (is : IsShape laid task shape) (few : length laid.abstract_cells ≤ 65536) where
    copy_under : (key : ℕ) (c : Option ℕ) → FitsMarked shape.marks.items key c → IsUnder (2 ^ 32) c
    copy_under key None h = tt
    copy_under key (Some n) h = let l = (is.marked n h.2).cell in omega (arith, l, few)

    pub copies_under : (live old new : List ℕ) (ks : List (Option ℕ))
        → IsRun (number_row (codes "k")) (FitsMarked shape.marks.items) (number_after (codes "k")) live old ks new
        → AreUnder (2 ^ 32) ks
    copies_under live old new ks run =
        all_hold (number_row (codes "k")) (FitsMarked shape.marks.items) (number_after (codes "k")) (IsUnder (2 ^ 32))
        copy_under live ks run.fits

-- ## The state of the lists

module _ (laid : LaidTree) (task : ℕ) (extents : List Extent) (shape : Shape) (live : List ℕ)
    (is : IsShape laid task shape) (rises : RiseFrom 0 live) (old new : List ℕ) where
  pub no_state : HasNoParts laid extents shape live old → HasNoState laid task extents live old
  no_state none =
      record {
        never = λ t more fits lawful end e.
            (let q = state_parts laid t in
            let fit = parts_fit laid task extents shape live is rises t fits lawful in
            let lines = lines_of laid task extents shape live is rises t q fit
            (of_state laid task extents shape live is rises t fits) in
            none.never q more fit (subst AreLines lines lawful) end (e ∙ ap (λ ls. lines_onto ls more) lines));
      }

  pub state_is : (q : Parts) → ArePartsIn laid extents shape live old q new → (s : State)
      → IsOfParts laid shape live q s → IsStateIn laid task extents live old s new
  state_is q parts s of =
      record {
        fits = fits_place laid task extents shape live is rises s q parts.fits of;
        is = parts.is
            ∙ ap (λ ls. lines_onto ls new) (sym (lines_of laid task extents shape live is rises s q parts.fits of));
        one = λ t more fits lawful end e.
            (let r = state_parts laid t in
            let fit = parts_fit laid task extents shape live is rises t fits lawful in
            let of_r = of_state laid task extents shape live is rises t fits in
            let lines = lines_of laid task extents shape live is rises t r fit of_r in
            let same = parts.one r more fit (subst AreLines lines lawful) end
            (e ∙ ap (λ ls. lines_onto ls more) lines) in
            (one_state laid shape live t s q (subst (λ x. IsOfParts laid shape live x t) same.0 of_r) of, same.1));
      }

  -- ## The state that was read

  -- the values of temporaries are missing
  pub temps_missing : IsNoRun (value_row (codes "t")) (FitsRow (InExtents laid extents)) AnyText live old
      → HasNoState laid task extents live old
  temps_missing none = no_state (no_temps laid extents shape live old none)

  module _ (mid : List ℕ) (vs : List Values)
      (temps : IsRun (value_row (codes "t")) (FitsRow (InExtents laid extents)) AnyText live old vs mid) where
    -- or those of cells are
    pub cells_missing : IsNoRun (value_row (codes "c")) (FitsRow (InExtents laid shape.kinds.items)) AnyText
        shape.seen.items mid → HasNoState laid task extents live old
    cells_missing none = no_state (no_cells laid extents shape live old mid vs temps none)

    -- temporaries, cells and copies make the state
    pub state_read : (behind : List ℕ) (cells : Table Cell) → AreCellsIn laid shape mid cells behind
        → (ks : List (Option ℕ))
        → IsRun (number_row (codes "k")) (FitsMarked shape.marks.items) (number_after (codes "k")) live behind ks new
        → (s : State) → entries s.temps ≡ temps_of live vs ks → s.cells ≡ cells
        → IsStateIn laid task extents live old s new
    state_read behind cells c ks copies s temps_are cells_are =
        let q : Parts = record {
          temps = vs;
          cells = c.lists.values;
          pending = c.lists.pending;
          fresh = c.lists.fresh;
          stored = c.lists.stored;
          copies = ks;
        } in
        let parts = parts_are laid extents shape live old q new
        record {
          behind_temps = mid;
          behind_cells = c.behind_values;
          behind_pending = c.behind_pending;
          behind_fresh = c.behind_fresh;
          behind_stored = behind;
          temps = temps;
          cells = c.values;
          pending = c.pending;
          fresh = c.fresh;
          stored = c.stored;
          copies = copies;
        } in
        state_is q parts s record { temps = temps_are; cells = ap entries cells_are ∙ c.are }
