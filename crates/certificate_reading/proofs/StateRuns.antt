-- The six lists of a state stand in a text, one behind the other.
use Rattle.std.proofs.Common.{◌≡◌, refl, sym, ap, subst, ℕ, ◌<◌, ◌^◌, Bool, true, false, List, [], ◌∷◌, ◌++◌, Option}
use Rattle.std.proofs.Common.{Some, None}
use Rattle.std.proofs.Common.{pos, get_or, lit≤, arith}
use Rattle.std.specs.Prelude.{codes, option_map}
use Rattle.tm_laid.specs.Layouts.{LaidTree}
use Rattle.pointer_dom.specs.Values.{Values}
use Rattle.temporary_extents.specs.declared.extents.Extent.{Extent}
use Rattle.post_recheck.specs.state_fits.Kinds.{InExtents}
use Rattle.certificate_words.specs.Words.{tag, number, IsWord, Line, AreLines}
use Rattle.certificate_parts.specs.declared.rows.Allowed.{Allowed}
use Rattle.certificate_parts.specs.declared.rows.Allowed.TheVariants.{Within}
use Rattle.certificate_parts.specs.Runs.{lines_onto, rows, IsRun, IsNoRun}
use Rattle.certificate_parts.specs.Rows.{mark_row, AnyMark, mark_after}
use Rattle.certificate_parts.specs.Numbers.{IsAllowed, number_row, FitsNumber, number_after}
use Rattle.certificate_parts.proofs.Running.{onto_append}
use Rattle.certificate_texts.proofs.Blocks.{AllHave, all_append}
use Rattle.certificate_reading.specs.Rows.{value_row, FitsRow, AnyText, AreReadRows}
use Rattle.certificate_reading.specs.States.{IsNotTagged, IsEnd}
use Rattle.certificate_reading.specs.declared.shapes.Shape.{Shape}
use Rattle.certificate_reading.specs.reading.Parts.{Parts, FitsMarked, FitParts, ArePartsIn, HasNoParts}
use Rattle.certificate_reading.specs.reading.Parts.{FitTemps, FitCells, FitPending, FitFresh, FitStored, FitCopies}
use Rattle.certificate_reading.specs.reading.Parts.{temp_rows, cell_rows, pending_rows, fresh_rows, stored_rows}
use Rattle.certificate_reading.specs.reading.Parts.{copy_rows}
use Rattle.certificate_reading.proofs.FirstLetters.{word_letter, letter, lines_split, ends_lines}
use Rattle.certificate_reading.proofs.Sequences.{IsIn, run_in, no_run_in, both_in, no_first, no_second}

-- ## What stands behind rows

pub none_marked : (letters : List ℕ) (key : ℕ) (text : List ℕ) → IsNotTagged letters text → mark_after letters key text
none_marked letters key text none =
    record { never = λ rest lawful e. none.never (number (pos key) ∷ []) rest lawful.1 e }

pub none_numbered : (letters : List ℕ) (key : ℕ) (text : List ℕ) → IsNotTagged letters text
    → number_after letters key text
none_numbered letters key text none =
    record { never = λ n rest lawful e. none.never (number (pos key) ∷ number (pos n) ∷ []) rest lawful.1 e }

pub mark_have : (letters : List ℕ) (key : ℕ) (mark : Bool)
    → AllHave letter (word_letter (tag letters)) (mark_row letters key mark)
mark_have letters key true = (refl, tt)
mark_have letters key false = tt

pub number_have : (letters : List ℕ) (key : ℕ) (n : Option ℕ)
    → AllHave letter (word_letter (tag letters)) (number_row letters key n)
number_have letters key None = tt
number_have letters key (Some n) = (refl, tt)

-- rows of another tag stand in front of a text
module _ (letters : List ℕ) (is : IsWord (tag letters)) {Z : Type 0} (others : List ℕ) (row : ℕ → Z → List Line)
    (Fits : ℕ → Z → Type 0) (After : ℕ → List ℕ → Type 0)
    (have : (k : ℕ) (z : Z) → AllHave letter (word_letter (tag others)) (row k z))
    (differ : word_letter (tag letters) ≡ word_letter (tag others) → ⊥) where
  pub rows_have : (keys : List ℕ) (zs : List Z) → AllHave letter (word_letter (tag others)) (rows row Fits After keys zs)
  rows_have [] zs = tt
  rows_have (k ∷ ks) [] = tt
  rows_have (k ∷ ks) (z ∷ zs) =
      all_append letter (word_letter (tag others)) (row k z) (rows row Fits After ks zs) (have k z) (rows_have ks zs)

  pub ends_rows : (keys : List ℕ) (zs : List Z) (more : List ℕ) → AreLines (rows row Fits After keys zs)
      → IsNotTagged letters more → IsNotTagged letters (lines_onto (rows row Fits After keys zs) more)
  ends_rows keys zs more lawful none =
      ends_lines letters (word_letter (tag others)) (rows row Fits After keys zs) more is differ (rows_have keys zs) lawful
      none

  -- rows, and lines behind them
  ends_both : (keys : List ℕ) (zs : List Z) (ls : List Line) (more : List ℕ) → AreLines (rows row Fits After keys zs ++ ls)
      → (AreLines ls → IsNotTagged letters (lines_onto ls more))
      → IsNotTagged letters (lines_onto (rows row Fits After keys zs ++ ls) more)
  ends_both keys zs ls more lawful none =
      let l = lines_split (rows row Fits After keys zs) ls lawful in
      subst (IsNotTagged letters) (sym (onto_append (rows row Fits After keys zs) ls more))
      (ends_rows keys zs (lines_onto ls more) l.0 (none l.1))

pub p_is : IsWord (tag (codes "p"))
p_is = (lit≤ tt, lit≤ tt, tt)

pub f_is : IsWord (tag (codes "f"))
f_is = (lit≤ tt, lit≤ tt, tt)

pub s_is : IsWord (tag (codes "s"))
s_is = (lit≤ tt, lit≤ tt, tt)

-- ## What was read

module _ {V : Type 0} (items : V → List Values) (letters : List ℕ) (Fits Held : ℕ → Values → Type 0) (same : Fits ≡ Held)
    (keys ks : List ℕ) (same_keys : keys ≡ ks) (old new : List ℕ) (found : Option V) where
  pub missing_rows : found ≡ None → AreReadRows letters Fits keys old (option_map items found) new
      → IsNoRun (value_row letters) (FitsRow Held) AnyText ks old
  missing_rows is h =
      subst (λ F. IsNoRun (value_row letters) (FitsRow F) AnyText ks old) same
      (subst (λ ns. IsNoRun (value_row letters) (FitsRow Fits) AnyText ns old) same_keys
      (subst (λ r. AreReadRows letters Fits keys old (option_map items r) new) is h))

  pub found_rows : (vs : V) → found ≡ Some vs → AreReadRows letters Fits keys old (option_map items found) new
      → IsRun (value_row letters) (FitsRow Held) AnyText ks old (items vs) new
  found_rows vs is h =
      subst (λ F. IsRun (value_row letters) (FitsRow F) AnyText ks old (items vs) new) same
      (subst (λ ns. IsRun (value_row letters) (FitsRow Fits) AnyText ns old (items vs) new) same_keys
      (subst (λ r. AreReadRows letters Fits keys old (option_map items r) new) is h))

-- ## Numbers that have marks

-- where numbers may stand that have marks in this list, a run of them is one of such numbers
pub marked_run : (allowed : Allowed) (marks : List Bool)
    → ((n : ℕ) → IsAllowed allowed n ≡ (get_or marks n false ≡ true)) → (letters keys old : List ℕ) (zs : List (Option ℕ))
    (new : List ℕ) → IsRun (number_row letters) (FitsNumber allowed) (number_after letters) keys old zs new
    → IsRun (number_row letters) (FitsMarked marks) (number_after letters) keys old zs new
marked_run allowed marks same letters keys old zs new run =
    subst (λ F. IsRun (number_row letters) F (number_after letters) keys old zs new) (λ i key z. at key z i) run
  where
    at : (key : ℕ) (z : Option ℕ) → FitsNumber allowed key z ≡ FitsMarked marks key z
    at key None = refl
    at key (Some n) = λ i. (key < 2 ^ 64) × (n < 2 ^ 64) × same n i

-- ## The six lists

module _ (laid : LaidTree) (extents : List Extent) (shape : Shape) (live : List ℕ) where
  -- the lines behind those of the first lists
  abbrev s_lines : List Bool × List (Option ℕ) → List Line
  s_lines q = stored_rows laid extents shape live q.0 ++ copy_rows laid extents shape live q.1

  abbrev f_lines : List Bool × (List Bool × List (Option ℕ)) → List Line
  f_lines q = fresh_rows laid extents shape live q.0 ++ s_lines q.1

  behind_stored : (ks : List (Option ℕ)) (more : List ℕ) → AreLines (copy_rows laid extents shape live ks) → IsEnd more
      → IsNotTagged (codes "s") (lines_onto (copy_rows laid extents shape live ks) more)
  behind_stored ks more lawful end =
      ends_rows (codes "s") s_is (codes "k") (number_row (codes "k")) (FitsMarked shape.marks.items)
      (number_after (codes "k")) (number_have (codes "k")) (λ e. omega arith) live ks more lawful end.stored

  behind_fresh : (q : List Bool × List (Option ℕ)) (more : List ℕ) → AreLines (s_lines q) → IsEnd more
      → IsNotTagged (codes "f") (lines_onto (s_lines q) more)
  behind_fresh q more lawful end =
      ends_both (codes "f") f_is (codes "s") (mark_row (codes "s")) AnyMark (mark_after (codes "s")) (mark_have (codes "s"))
      (λ e. omega arith) shape.local.items q.0 (copy_rows laid extents shape live q.1) more lawful
      (λ l. ends_rows (codes "f") f_is (codes "k") (number_row (codes "k")) (FitsMarked shape.marks.items)
      (number_after (codes "k")) (number_have (codes "k")) (λ e. omega arith) live q.1 more l end.fresh)

  behind_pending : (q : List Bool × (List Bool × List (Option ℕ))) (more : List ℕ) → AreLines (f_lines q) → IsEnd more
      → IsNotTagged (codes "p") (lines_onto (f_lines q) more)
  behind_pending q more lawful end =
      ends_both (codes "p") p_is (codes "f") (mark_row (codes "f")) AnyMark (mark_after (codes "f")) (mark_have (codes "f"))
      (λ e. omega arith) shape.seen.items q.0 (s_lines q.1) more lawful
      (λ l. ends_both (codes "p") p_is (codes "s") (mark_row (codes "s")) AnyMark (mark_after (codes "s"))
      (mark_have (codes "s")) (λ e. omega arith) shape.local.items q.1.0 (copy_rows laid extents shape live q.1.1) more l
      (λ m. ends_rows (codes "p") p_is (codes "k") (number_row (codes "k")) (FitsMarked shape.marks.items)
      (number_after (codes "k")) (number_have (codes "k")) (λ e. omega arith) live q.1.1 more m end.pending))

  -- ## One behind the other

  abbrev p_lines : List (Option ℕ) × (List Bool × (List Bool × List (Option ℕ))) → List Line
  p_lines q = pending_rows laid extents shape live q.0 ++ f_lines q.1

  abbrev c_lines : List Values × (List (Option ℕ) × (List Bool × (List Bool × List (Option ℕ)))) → List Line
  c_lines q = cell_rows laid extents shape live q.0 ++ p_lines q.1

  abbrev FitStoredOn : List Bool × List (Option ℕ) → Type 0
  FitStoredOn q = FitStored laid extents shape live q.0 × FitCopies laid extents shape live q.1

  abbrev FitFreshOn : List Bool × (List Bool × List (Option ℕ)) → Type 0
  FitFreshOn q = FitFresh laid extents shape live q.0 × FitStoredOn q.1

  abbrev FitPendingOn : List (Option ℕ) × (List Bool × (List Bool × List (Option ℕ))) → Type 0
  FitPendingOn q = FitPending laid extents shape live q.0 × FitFreshOn q.1

  abbrev FitCellsOn : List Values × (List (Option ℕ) × (List Bool × (List Bool × List (Option ℕ)))) → Type 0
  FitCellsOn q = FitCells laid extents shape live q.0 × FitPendingOn q.1

  abbrev Lists : Type 0
  Lists = List Values × (List Values × (List (Option ℕ) × (List Bool × (List Bool × List (Option ℕ)))))

  abbrev lists_of : Parts → Lists
  lists_of r = (r.temps, (r.cells, (r.pending, (r.fresh, (r.stored, r.copies)))))

  abbrev of_lists : Lists → Parts
  of_lists q = record {
    temps = q.0;
    cells = q.1.0;
    pending = q.1.1.0;
    fresh = q.1.1.1.0;
    stored = q.1.1.1.1.0;
    copies = q.1.1.1.1.1;
  }

  abbrev FitLists : Lists → Type 0
  FitLists q = FitTemps laid extents shape live q.0 × FitCellsOn q.1

  all_fit : (r : Parts) → FitParts laid extents shape live r → FitLists (lists_of r)
  all_fit r fits = (fits.temps, (fits.cells, (fits.pending, (fits.fresh, (fits.stored, fits.copies)))))

  all_fitting : (r : Parts) → FitLists (lists_of r) → FitParts laid extents shape live r
  all_fitting r fits =
      record {
        temps = fits.0;
        cells = fits.1.0;
        pending = fits.1.1.0;
        fresh = fits.1.1.1.0;
        stored = fits.1.1.1.1.0;
        copies = fits.1.1.1.1.1;
      }

  abbrev Any : List ℕ → Type 0
  Any text = Unit {0}

  temps_in : (old new : List ℕ) (vs : List Values)
      → IsRun (value_row (codes "t")) (FitsRow (InExtents laid extents)) AnyText live old vs new
      → IsIn (temp_rows laid extents shape live) (FitTemps laid extents shape live) Any old vs new
  temps_in old new vs run =
      run_in (value_row (codes "t")) (FitsRow (InExtents laid extents)) AnyText Any (λ k more end. tt) live old vs new run

  cells_in : (old new : List ℕ) (vs : List Values)
      → IsRun (value_row (codes "c")) (FitsRow (InExtents laid shape.kinds.items)) AnyText shape.seen.items old vs new
      → IsIn (cell_rows laid extents shape live) (FitCells laid extents shape live) Any old vs new
  cells_in old new vs run =
      run_in (value_row (codes "c")) (FitsRow (InExtents laid shape.kinds.items)) AnyText Any (λ k more end. tt)
      shape.seen.items old vs new run

  pending_in : (old new : List ℕ) (ps : List (Option ℕ))
      → IsRun (number_row (codes "p")) (FitsNumber (Within shape.mask)) (number_after (codes "p")) shape.shared.items old ps
      new
      → IsIn (pending_rows laid extents shape live) (FitPending laid extents shape live) (IsNotTagged (codes "p")) old ps
      new
  pending_in old new ps run =
      run_in (number_row (codes "p")) (FitsNumber (Within shape.mask)) (number_after (codes "p")) (IsNotTagged (codes "p"))
      (none_numbered (codes "p")) shape.shared.items old ps new run

  fresh_in : (old new : List ℕ) (fs : List Bool)
      → IsRun (mark_row (codes "f")) AnyMark (mark_after (codes "f")) shape.seen.items old fs new
      → IsIn (fresh_rows laid extents shape live) (FitFresh laid extents shape live) (IsNotTagged (codes "f")) old fs new
  fresh_in old new fs run =
      run_in (mark_row (codes "f")) AnyMark (mark_after (codes "f")) (IsNotTagged (codes "f")) (none_marked (codes "f"))
      shape.seen.items old fs new run

  stored_in : (old new : List ℕ) (ss : List Bool)
      → IsRun (mark_row (codes "s")) AnyMark (mark_after (codes "s")) shape.local.items old ss new
      → IsIn (stored_rows laid extents shape live) (FitStored laid extents shape live) (IsNotTagged (codes "s")) old ss new
  stored_in old new ss run =
      run_in (mark_row (codes "s")) AnyMark (mark_after (codes "s")) (IsNotTagged (codes "s")) (none_marked (codes "s"))
      shape.local.items old ss new run

  copies_in : (old new : List ℕ) (ks : List (Option ℕ))
      → IsRun (number_row (codes "k")) (FitsMarked shape.marks.items) (number_after (codes "k")) live old ks new
      → IsIn (copy_rows laid extents shape live) (FitCopies laid extents shape live) IsEnd old ks new
  copies_in old new ks run =
      run_in (number_row (codes "k")) (FitsMarked shape.marks.items) (number_after (codes "k")) IsEnd
      (λ k more end. none_numbered (codes "k") k more end.copies) live old ks new run

  -- the values of temporaries are missing; or those of cells behind them
  pub no_temps : (old : List ℕ)
      → IsNoRun (value_row (codes "t")) (FitsRow (InExtents laid extents)) AnyText live old
      → HasNoParts laid extents shape live old
  no_temps old none =
      let t = no_first (temp_rows laid extents shape live) c_lines (FitTemps laid extents shape live) FitCellsOn Any IsEnd
      (λ q more lawful end. tt) old
      (no_run_in (value_row (codes "t")) (FitsRow (InExtents laid extents)) AnyText Any (λ k more end. tt) live old none) in
      record { never = λ r more fits lawful end e. t.never (lists_of r) more (all_fit r fits) lawful end e }

  pub no_cells : (old mid : List ℕ) (vs : List Values)
      → IsRun (value_row (codes "t")) (FitsRow (InExtents laid extents)) AnyText live old vs mid
      → IsNoRun (value_row (codes "c")) (FitsRow (InExtents laid shape.kinds.items)) AnyText shape.seen.items mid
      → HasNoParts laid extents shape live old
  no_cells old mid vs run none =
      let c = no_first (cell_rows laid extents shape live) p_lines (FitCells laid extents shape live) FitPendingOn Any IsEnd
      (λ q more lawful end. tt) mid
      (no_run_in (value_row (codes "c")) (FitsRow (InExtents laid shape.kinds.items)) AnyText Any (λ k more end. tt)
      shape.seen.items mid none) in
      let t = no_second (temp_rows laid extents shape live) c_lines (FitTemps laid extents shape live) FitCellsOn Any IsEnd
      (λ q more lawful end. tt) old mid vs (temps_in old mid vs run) c in
      record { never = λ r more fits lawful end e. t.never (lists_of r) more (all_fit r fits) lawful end e }

  -- all six stand there
  pub record AreSixRuns (old : List ℕ) (q : Parts) (new : List ℕ) : Type 0 where
    pub behind_temps : List ℕ
    pub behind_cells : List ℕ
    pub behind_pending : List ℕ
    pub behind_fresh : List ℕ
    pub behind_stored : List ℕ
    pub temps : IsRun (value_row (codes "t")) (FitsRow (InExtents laid extents)) AnyText live old q.temps behind_temps
    pub cells : IsRun (value_row (codes "c")) (FitsRow (InExtents laid shape.kinds.items)) AnyText shape.seen.items
        behind_temps q.cells behind_cells
    pub pending : IsRun (number_row (codes "p")) (FitsNumber (Within shape.mask)) (number_after (codes "p"))
        shape.shared.items behind_cells q.pending behind_pending
    pub fresh : IsRun (mark_row (codes "f")) AnyMark (mark_after (codes "f")) shape.seen.items behind_pending q.fresh
        behind_fresh
    pub stored : IsRun (mark_row (codes "s")) AnyMark (mark_after (codes "s")) shape.local.items behind_fresh q.stored
        behind_stored
    pub copies : IsRun (number_row (codes "k")) (FitsMarked shape.marks.items) (number_after (codes "k")) live
        behind_stored q.copies new

  pub parts_are : (old : List ℕ) (q : Parts) (new : List ℕ) → AreSixRuns old q new
      → ArePartsIn laid extents shape live old q new
  parts_are old q new six =
      let s = both_in (stored_rows laid extents shape live) (copy_rows laid extents shape live)
      (FitStored laid extents shape live) (FitCopies laid extents shape live) (IsNotTagged (codes "s")) IsEnd behind_stored
      six.behind_fresh six.behind_stored new q.stored q.copies
      (stored_in six.behind_fresh six.behind_stored q.stored six.stored)
      (copies_in six.behind_stored new q.copies six.copies) in
      let f = both_in (fresh_rows laid extents shape live) s_lines (FitFresh laid extents shape live) FitStoredOn
      (IsNotTagged (codes "f")) IsEnd behind_fresh six.behind_pending six.behind_fresh new q.fresh (q.stored, q.copies)
      (fresh_in six.behind_pending six.behind_fresh q.fresh six.fresh) s in
      let p = both_in (pending_rows laid extents shape live) f_lines (FitPending laid extents shape live) FitFreshOn
      (IsNotTagged (codes "p")) IsEnd behind_pending six.behind_cells six.behind_pending new q.pending
      (q.fresh, (q.stored, q.copies)) (pending_in six.behind_cells six.behind_pending q.pending six.pending) f in
      let c = both_in (cell_rows laid extents shape live) p_lines (FitCells laid extents shape live) FitPendingOn Any IsEnd
      (λ r more lawful end. tt) six.behind_temps six.behind_cells new q.cells
      (q.pending, (q.fresh, (q.stored, q.copies))) (cells_in six.behind_temps six.behind_cells q.cells six.cells) p in
      let t = both_in (temp_rows laid extents shape live) c_lines (FitTemps laid extents shape live) FitCellsOn Any IsEnd
      (λ r more lawful end. tt) old six.behind_temps new q.temps
      (q.cells, (q.pending, (q.fresh, (q.stored, q.copies)))) (temps_in old six.behind_temps q.temps six.temps) c in
      record {
        fits = all_fitting q t.fits;
        is = t.is;
        one = λ r more fits lawful end e.
            (let same = t.one (lists_of r) more (all_fit r fits) lawful end e in (ap of_lists same.0, same.1));
      }
