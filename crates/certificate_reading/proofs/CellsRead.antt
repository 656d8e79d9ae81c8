-- Cells are read, kept, and shared.
use Rattle.std.proofs.Common.{◌≡◌, refl, sym, ap, subst, ◌∙◌, ℕ, ◌-◌, ◌≤◌, Bool, true, false, List, []}
use Rattle.std.proofs.Common.{◌∷◌, ◌++◌, length, take, Option, Some, None, arith}
use Rattle.std.specs.Prelude.{codes, slice_get, nat_eq, not, ◌==◌}
use Rattle.std.proofs.lemmas.Bool.Decides.{nat_tests}
use Rattle.std.specs.FinMap.{get, entries, empty, get-empty}
use Rattle.std.specs.Ordering.{nat_cmp}
use Rattle.tm_lattice.specs.Tables.{Table}
use Rattle.tm_laid.specs.Layouts.{LaidTree}
use Rattle.pointer_dom.specs.Values.{Values}
use Rattle.transfer_rows.specs.StateForms.{Cell}
use Rattle.edge_actions.specs.Layouts.{is_shared_cell}
use Rattle.temporary_extents.specs.declared.extents.Extent.{Extent}
use Rattle.post_recheck.specs.state_fits.Kinds.{InExtents}
use Rattle.certificate_words.specs.Words.{Word, tag, Line, AreLines, words_onto, line_onto}
use Rattle.certificate_words.proofs.OneText as texts
use Rattle.certificate_parts.specs.declared.rows.Allowed.{Allowed}
use Rattle.certificate_parts.specs.declared.rows.Allowed.TheVariants.{Within}
use Rattle.certificate_parts.specs.Runs.{lines_onto, AreDistinct, IsStep, rows, AllFit, AfterAll, IsRun}
use Rattle.certificate_parts.specs.Rows.{IsTag, mark_row, AnyMark, mark_after, mark_line}
use Rattle.certificate_parts.specs.Numbers.{pair_line, number_row, FitsNumber, number_after}
use Rattle.certificate_parts.proofs.Running.{onto_append, run_none, behind_rows}
use Rattle.certificate_parts.proofs.RowsRead.{marks_apart, mark_step}
use Rattle.certificate_parts.proofs.NumbersRead.{pair_lawful, same_key, numbers_apart}
use Rattle.certificate_reading.specs.Rows.{value_line, value_row, FitsRow, AnyText}
use Rattle.certificate_reading.specs.States.{IsNotTagged}
use Rattle.certificate_reading.specs.declared.shapes.Shape.{Shape}
use Rattle.certificate_reading.specs.declared.kept.Kept.{Kept}
use Rattle.certificate_reading.specs.reading.Shapes.{RiseFrom}
use Rattle.certificate_reading.specs.declared.kept_rows.KeptRow.{KeptRow}
use Rattle.certificate_reading.specs.declared.kept_rows.ReadRows.{ReadRows}
use Rattle.certificate_reading.specs.reading.KeptRows.{values_of, AreKeptRows, AreReadAgain}
use Rattle.certificate_reading.specs.reading.Parts.{cells_of}
use Rattle.certificate_reading.specs.reading.Cells.{AreSeen, EndsCells, CellLists, IsRunOfValues, IsRunOfPending}
use Rattle.certificate_reading.specs.reading.Cells.{IsRunOfFresh, IsRunOfStored, AreCellsIn, value_lines, pending_lines}
use Rattle.certificate_reading.specs.reading.Cells.{fresh_lines, stored_lines, cells_lines, AreKept, IsKept, IsKeptFront}
use Rattle.certificate_reading.proofs.NumbersOf.{distinct}
use Rattle.certificate_reading.proofs.RowsOfValues.{row_lawful}
use Rattle.certificate_reading.proofs.RowsAgain.{c_is, lines_before, front_is, rest_is_short, values_length}
use Rattle.certificate_reading.proofs.PuttingOver.{seen_put}
use Rattle.certificate_reading.proofs.Sequences.{after_all}
use Rattle.certificate_reading.proofs.StateRuns.{none_marked, none_numbered, mark_have, ends_rows, p_is, f_is, s_is}

-- ## Rows that stand in front of a text are read there

module _ {Z : Type 0} (row : ℕ → Z → List Line) (Fits : ℕ → Z → Type 0) (After : ℕ → List ℕ → Type 0)
    (apart : (d k : ℕ) (y : Z) (more : List ℕ) → (d ≡ k → ⊥) → Fits k y → After d more
    → After d (lines_onto (row k y) more))
    (step : (k : ℕ) (z : Z) (more : List ℕ) → Fits k z → After k more
    → IsStep row Fits After k (lines_onto (row k z) more) z more) where
  run_of : (keys : List ℕ) (zs : List Z) (new : List ℕ) → AreDistinct keys → AllFit row Fits After keys zs
      → AfterAll row Fits After keys new
      → IsRun row Fits After keys (lines_onto (rows row Fits After keys zs) new) zs new
  run_of [] [] new d f a = run_none row Fits After apart new
  run_of [] (z ∷ zs) new d f a = absurd f
  run_of (k ∷ ks) [] new d f a = absurd f
  run_of (k ∷ ks) (z ∷ zs) new d f a =
      let others = run_of ks zs new d.1 f.1 a.1 in
      let here = step k z (lines_onto (rows row Fits After ks zs) new) f.0
      (behind_rows row Fits After apart k ks zs new d.0 f.1 a.0) in
      record { fits = f; is = refl; one = λ ys more g b e. same here others ys more g b e }
    where
      same : IsStep row Fits After k (lines_onto (row k z) (lines_onto (rows row Fits After ks zs) new)) z
          (lines_onto (rows row Fits After ks zs) new)
          → IsRun row Fits After ks (lines_onto (rows row Fits After ks zs) new) zs new
          → (ys : List Z) (more : List ℕ) → AllFit row Fits After (k ∷ ks) ys → AfterAll row Fits After (k ∷ ks) more
          → lines_onto (rows row Fits After (k ∷ ks) (z ∷ zs)) new ≡ lines_onto (rows row Fits After (k ∷ ks) ys) more
          → (ys ≡ z ∷ zs) × (more ≡ new)
      same here others [] more g b e = absurd g
      same here others (y ∷ ys) more g b e =
          let first = here.one y (lines_onto (rows row Fits After ks ys) more) g.0
          (behind_rows row Fits After apart k ks ys more d.0 g.1 b.0)
          (sym (onto_append (row k z) (rows row Fits After ks zs) new)
          ∙ (e ∙ onto_append (row k y) (rows row Fits After ks ys) more)) in
          let next = others.one ys more g.1 b.1 (sym first.1) in
          ((λ i. first.0 i ∷ next.0 i), next.1)

-- ## Lines that may stand for a key

module _ (letters : List ℕ) (tagged : IsTag letters) where
  mark_here : (k : ℕ) (z : Bool) (more : List ℕ) → AnyMark k z → mark_after letters k more
      → IsStep (mark_row letters) AnyMark (mark_after letters) k (lines_onto (mark_row letters k z) more) z more
  mark_here k true more fit after = mark_step letters tagged k (line_onto (mark_line letters k) more) more true fit refl
  mark_here k false more fit after = mark_step letters tagged k more more false fit (refl, after)

  pub marks_of : (keys : List ℕ) (zs : List Bool) (new : List ℕ) → AreDistinct keys
      → AllFit (mark_row letters) AnyMark (mark_after letters) keys zs → IsNotTagged letters new
      → IsRun (mark_row letters) AnyMark (mark_after letters) keys
      (lines_onto (rows (mark_row letters) AnyMark (mark_after letters) keys zs) new) zs new
  marks_of keys zs new d fit none =
      run_of (mark_row letters) AnyMark (mark_after letters) (marks_apart letters tagged) mark_here keys zs new d fit
      (after_all (mark_row letters) AnyMark (mark_after letters) (IsNotTagged letters) (none_marked letters) keys keys new
      none)

  pub marks_lawful : (keys : List ℕ) (zs : List Bool) → AllFit (mark_row letters) AnyMark (mark_after letters) keys zs
      → AreLines (rows (mark_row letters) AnyMark (mark_after letters) keys zs)
  marks_lawful [] zs f = tt
  marks_lawful (k ∷ ks) [] f = tt
  marks_lawful (k ∷ ks) (true ∷ zs) f = ((tagged, (f.0, tt)), marks_lawful ks zs f.1)
  marks_lawful (k ∷ ks) (false ∷ zs) f = marks_lawful ks zs f.1

  module _ (allowed : Allowed) where
    number_here : (k : ℕ) (z : Option ℕ) (more : List ℕ) → FitsNumber allowed k z → number_after letters k more
        → IsStep (number_row letters) (FitsNumber allowed) (number_after letters) k (lines_onto (number_row letters k z) more)
        z more
    number_here k None more fit after =
        record { fits = fit; is = refl; one = by_number }
      where
        by_number : (y : Option ℕ) (rest : List ℕ) → FitsNumber allowed k y → number_after letters k rest
            → more ≡ lines_onto (number_row letters k y) rest → (y ≡ None) × (rest ≡ more)
        by_number None rest f a e = (refl, sym e)
        by_number (Some m) rest f a e = absurd (after.never m rest (pair_lawful letters tagged k m f.0 f.1) e)
    number_here k (Some n) more fit after =
        record { fits = fit; is = refl; one = by_number }
      where
        by_number : (y : Option ℕ) (rest : List ℕ) → FitsNumber allowed k y → number_after letters k rest
            → line_onto (pair_line letters k n) more ≡ lines_onto (number_row letters k y) rest
            → (y ≡ Some n) × (rest ≡ more)
        by_number None rest f a e = absurd (a.never n more (pair_lawful letters tagged k n fit.0 fit.1) (sym e))
        by_number (Some m) rest f a e =
            let t = texts.line (pair_line letters k m) (pair_line letters k n) rest more
            (pair_lawful letters tagged k m f.0 f.1) (pair_lawful letters tagged k n fit.0 fit.1) (sym e) in
            (ap Some (same_key letters tagged k k m n t.0).1, t.1)

    pub numbers_of : (keys : List ℕ) (zs : List (Option ℕ)) (new : List ℕ) → AreDistinct keys
        → AllFit (number_row letters) (FitsNumber allowed) (number_after letters) keys zs → IsNotTagged letters new
        → IsRun (number_row letters) (FitsNumber allowed) (number_after letters) keys
        (lines_onto (rows (number_row letters) (FitsNumber allowed) (number_after letters) keys zs) new) zs new
    numbers_of keys zs new d fit none =
        run_of (number_row letters) (FitsNumber allowed) (number_after letters) (numbers_apart letters tagged allowed)
        number_here keys zs new d fit
        (after_all (number_row letters) (FitsNumber allowed) (number_after letters) (IsNotTagged letters)
        (none_numbered letters) keys keys new none)

-- ## Lines of values

module _ (letters : List ℕ) (is_tag : IsTag letters) (Fits : ℕ → Values → Type 0) where
  abbrev value_rows : List ℕ → List Values → List Line
  value_rows = rows (value_row letters) (FitsRow Fits) AnyText

  after_any : (keys : List ℕ) (text : List ℕ) → AfterAll (value_row letters) (FitsRow Fits) AnyText keys text
  after_any [] text = tt
  after_any (k ∷ ks) text = (tt, after_any ks text)

  same_rows : (keys : List ℕ) (vs ys : List Values) (new more : List ℕ)
      → AllFit (value_row letters) (FitsRow Fits) AnyText keys vs
      → AllFit (value_row letters) (FitsRow Fits) AnyText keys ys
      → lines_onto (value_rows keys vs) new ≡ lines_onto (value_rows keys ys) more
      → (value_rows keys vs ≡ value_rows keys ys) × (more ≡ new)
  same_rows [] [] [] new more f g e = (refl, sym e)
  same_rows [] [] (y ∷ ys) new more f g e = absurd g
  same_rows [] (v ∷ vs) ys new more f g e = absurd f
  same_rows (k ∷ ks) [] ys new more f g e = absurd f
  same_rows (k ∷ ks) (v ∷ vs) [] new more f g e = absurd g
  same_rows (k ∷ ks) (v ∷ vs) (y ∷ ys) new more f g e =
      let t = texts.line (value_line letters k v) (value_line letters k y) (lines_onto (value_rows ks vs) new)
      (lines_onto (value_rows ks ys) more) (row_lawful letters is_tag Fits k v f.0)
      (row_lawful letters is_tag Fits k y g.0) e in
      let r = same_rows ks vs ys new more f.1 g.1 t.1 in
      ((λ i. t.0 i ∷ r.0 i), r.1)

  -- values that were read from one text are read from any in which their lines stand in front
  pub values_moved : (keys before behind : List ℕ) (vs : List Values) (new : List ℕ)
      → IsRun (value_row letters) (FitsRow Fits) AnyText keys before vs behind
      → IsRun (value_row letters) (FitsRow Fits) AnyText keys (lines_onto (value_rows keys vs) new) vs new
  values_moved keys before behind vs new run =
      record {
        fits = run.fits;
        is = refl;
        one = λ ys more f a e.
            (let r = same_rows keys vs ys new more run.fits f e in
            let o = run.one ys behind f (after_any keys behind) (run.is ∙ ap (λ ls. lines_onto ls behind) r.0) in
            (o.0, r.1));
      }

-- ## What ends cells

heads : (a b : ℕ) (xs ys : List ℕ) → a ∷ xs ≡ b ∷ ys → a ≡ b
heads a b xs ys e = cc

no_head : (a : ℕ) (xs : List ℕ) → [] ≡ a ∷ xs → ⊥
no_head a xs e = cc

first_byte : (letter : ℕ) (words : List Word) (rest : List ℕ) (byte : ℕ) (more : List ℕ)
    → byte ∷ more ≡ words_onto (tag (letter ∷ [])) words rest → byte ≡ letter
first_byte letter [] rest byte more e = heads byte letter more (10 ∷ rest) e
first_byte letter (w ∷ ws) rest byte more e = heads byte letter more (32 ∷ words_onto w ws rest) e

other_byte : (letter byte : ℕ) (more : List ℕ) → (byte ≡ letter → ⊥) → IsNotTagged (letter ∷ []) (byte ∷ more)
other_byte letter byte more other =
    record { never = λ words rest h e. other (first_byte letter words rest byte more e) }

no_byte : (letter : ℕ) (words : List Word) (rest : List ℕ) → [] ≡ words_onto (tag (letter ∷ [])) words rest → ⊥
no_byte letter [] rest e = no_head letter (10 ∷ rest) e
no_byte letter (w ∷ ws) rest e = no_head letter (32 ∷ words_onto w ws rest) e

pub not_same : (n m : ℕ) → not (nat_eq n m) ≡ true → n ≡ m → ⊥
not_same n m h e = grind (arith, nat_tests)

pub ends_none : (text : List ℕ) → None ≡ slice_get text 0 → EndsCells text
ends_none [] e =
    record {
      pending = record { never = λ words rest h i. no_byte 112 words rest i };
      fresh = record { never = λ words rest h i. no_byte 102 words rest i };
      stored = record { never = λ words rest h i. no_byte 115 words rest i };
    }
ends_none (b ∷ more) e = absurd (cc)

pub ends_some : (text : List ℕ) (byte : ℕ) → Some byte ≡ slice_get text 0 → (byte ≡ 112 → ⊥) → (byte ≡ 102 → ⊥)
    → (byte ≡ 115 → ⊥) → EndsCells text
ends_some [] byte e p f s = absurd (cc)
ends_some (b ∷ more) byte e p f s =
    let same : byte ≡ b = cc in
    record {
      pending = other_byte 112 b more (λ i. p (same ∙ i));
      fresh = other_byte 102 b more (λ i. f (same ∙ i));
      stored = other_byte 115 b more (λ i. s (same ∙ i));
    }

-- the text begins with what is kept
pub kept_front : (kept text more : List ℕ) (none : Bool) → none ≡ (length kept == 0) → none ≡ false
    → text ≡ kept ++ more → EndsCells more → IsKeptFront kept text more
kept_front kept text more none is some front ends =
    record {
      some = λ e. (let f : true ≡ false = ap (λ (k : List ℕ). length k == 0) (sym e) ∙ (sym is ∙ some) in cc);
      is = front;
      ends = ends;
    }

-- ## Cells

fit_length : {Z : Type 0} (row : ℕ → Z → List Line) (Fits : ℕ → Z → Type 0) (After : ℕ → List ℕ → Type 0)
    (keys : List ℕ) (zs : List Z) → AllFit row Fits After keys zs → length zs ≡ length keys
fit_length row Fits After [] [] f = refl
fit_length row Fits After [] (z ∷ zs) f = absurd f
fit_length row Fits After (k ∷ ks) [] f = absurd f
fit_length row Fits After (k ∷ ks) (z ∷ zs) f = let h = fit_length row Fits After ks zs f.1 in omega (arith, h)

module _ (laid : LaidTree) (shape : Shape) where
  pub values_fit_length : (old new : List ℕ) (vs : List Values) → IsRunOfValues laid shape old vs new
      → length vs ≡ length shape.seen.items
  values_fit_length old new vs run =
      fit_length (value_row (codes "c")) (FitsRow (InExtents laid shape.kinds.items)) AnyText shape.seen.items vs run.fits

  pub fresh_fit_length : (old new : List ℕ) (fs : List Bool) → IsRunOfFresh laid shape old fs new
      → length fs ≡ length shape.seen.items
  fresh_fit_length old new fs run =
      fit_length (mark_row (codes "f")) AnyMark (mark_after (codes "f")) shape.seen.items fs run.fits

  -- the lines of cells in front of a text, one list behind the other
  in_front : (q : CellLists) (text : List ℕ)
      → lines_onto (cells_lines laid shape q) text
      ≡ lines_onto (value_lines laid shape q) (lines_onto (pending_lines laid shape q) (lines_onto (fresh_lines laid shape q)
      (lines_onto (stored_lines laid shape q) text)))
  in_front q text =
      let V = value_lines laid shape q in
      let P = pending_lines laid shape q in
      let F = fresh_lines laid shape q in
      let S = stored_lines laid shape q in
      onto_append V (P ++ (F ++ S)) text
      ∙ ap (lines_onto V) (onto_append P (F ++ S) text ∙ ap (lines_onto P) (onto_append F S text))

  -- what was read
  module _ (old new : List ℕ) (cells : Table Cell) (c : AreCellsIn laid shape old cells new) where
    read_lines : old ≡ lines_onto (cells_lines laid shape c.lists) [] ++ new
    read_lines =
        let V = value_lines laid shape c.lists in
        let P = pending_lines laid shape c.lists in
        let F = fresh_lines laid shape c.lists in
        let inner = c.fresh.is ∙ ap (lines_onto F) c.stored.is in
        c.values.is
        ∙ (ap (lines_onto V) (c.pending.is ∙ ap (lines_onto P) inner)
        ∙ (sym (in_front c.lists new) ∙ sym (lines_before (cells_lines laid shape c.lists) [] new)))

    pub read_is_short : length new ≤ length old
    read_is_short = rest_is_short old (lines_onto (cells_lines laid shape c.lists) []) new read_lines

    -- is kept
    pub kept_is : (text : List ℕ) → text ≡ take (length old - length new) old → AreKept laid shape text cells
    kept_is text cut =
        record {
          lists = c.lists;
          before = old;
          behind = c.behind_values;
          values = c.values;
          pending = c.pending.fits;
          fresh = c.fresh.fits;
          stored = c.stored.fits;
          is = cut ∙ front_is old (lines_onto (cells_lines laid shape c.lists) []) new read_lines;
          are = c.are;
        }

    -- each of the cells is seen
    read_seen : AreSeen shape.seen.items cells
    read_seen =
        seen_put (is_shared_cell laid) shape.seen.items c.lists.values c.lists.pending c.lists.fresh c.lists.stored cells
        (values_fit_length old c.behind_values c.lists.values c.values)
        (fresh_fit_length c.behind_pending c.behind_fresh c.lists.fresh c.fresh) c.are

    pub kept_of : (kept : Kept) (text rest : List ℕ) → kept.cells ≡ cells → text ≡ old → rest ≡ new
        → kept.text.now ≡ take (length text - length rest) text → AreKeptRows laid shape.kinds.items kept.rows.items
        → IsKept laid shape kept
    kept_of kept text rest same is_old is_new cut rows =
        record {
          known = λ some. subst (AreKept laid shape kept.text.now) (sym same)
              (kept_is kept.text.now (cut ∙ (λ i. take (length (is_old i) - length (is_new i)) (is_old i))));
          seen = subst (AreSeen shape.seen.items) (sym same) read_seen;
          rows = rows;
        }

  -- the lines of values have been read
  pub rows_found : (seen : List ℕ) (kinds : List Extent) (text old : List ℕ) (found : Option ReadRows) (r : ReadRows)
      → seen ≡ shape.seen.items → kinds ≡ shape.kinds.items → text ≡ old → found ≡ Some r
      → AreReadAgain laid kinds seen text found → AreReadAgain laid shape.kinds.items shape.seen.items old (Some r)
  rows_found seen kinds text old found r same_seen same_kinds same_text is h =
      subst (λ t. AreReadAgain laid shape.kinds.items shape.seen.items t (Some r)) same_text
      (subst (λ f. AreReadAgain laid shape.kinds.items shape.seen.items text f) is
      (subst (λ es. AreReadAgain laid es shape.seen.items text found) same_kinds
      (subst (λ ks. AreReadAgain laid kinds ks text found) same_seen h)))

  pub rows_count : (old : List ℕ) (r : ReadRows) → AreReadAgain laid shape.kinds.items shape.seen.items old (Some r)
      → length r.rows.items ≡ length shape.seen.items
  rows_count old r h =
      sym (values_length r.rows.items) ∙ values_fit_length old r.more.now (values_of r.rows.items) h.0

  -- and what stands behind them
  pub cells_found : (old mid behind_pending behind_fresh new : List ℕ) (r : ReadRows) (ps : List (Option ℕ))
      (fs ss : List Bool) → AreReadAgain laid shape.kinds.items shape.seen.items old (Some r) → mid ≡ r.more.now
      → IsRunOfPending laid shape mid ps behind_pending → IsRunOfFresh laid shape behind_pending fs behind_fresh
      → IsRunOfStored laid shape behind_fresh ss new → (cells : Table Cell) (seen : List ℕ) (rows : List KeptRow)
      (marks : List Bool) → seen ≡ shape.seen.items → rows ≡ r.rows.items → marks ≡ fs
      → entries cells ≡ cells_of (is_shared_cell laid) seen (values_of rows) ps marks ss
      → AreCellsIn laid shape old cells new
  cells_found old mid behind_pending behind_fresh new r ps fs ss read at pending fresh stored cells seen rows marks
      same_seen same_rows same_marks are =
      record {
        lists = record { values = values_of r.rows.items; pending = ps; fresh = fs; stored = ss };
        behind_values = mid;
        behind_pending = behind_pending;
        behind_fresh = behind_fresh;
        values = subst (IsRunOfValues laid shape old (values_of r.rows.items)) (sym at) read.0;
        pending = pending;
        fresh = fresh;
        stored = stored;
        are = are ∙ (λ i. cells_of (is_shared_cell laid) (same_seen i) (values_of (same_rows i)) ps (same_marks i) ss);
      }

  -- nothing is kept
  pub kept_none : (kept : Kept) → kept.text.now ≡ [] → kept.rows.items ≡ [] → kept.cells ≡ empty
      → IsKept laid shape kept
  kept_none kept no_text no_rows no_cells =
      record {
        known = λ some. absurd (some no_text);
        seen = λ x c e.
            absurd (let f : None ≡ Some c = sym (get-empty nat_cmp x) ∙ (ap (λ t. get t x) (sym no_cells) ∙ e) in cc);
        rows = subst (AreKeptRows laid shape.kinds.items) (sym no_rows) tt;
      }

  -- What is kept stands in front of a text again.
  pub cells_again : (kept : Kept) (text more : List ℕ) → RiseFrom 0 shape.seen.items → RiseFrom 0 shape.shared.items
      → RiseFrom 0 shape.local.items → IsKept laid shape kept → IsKeptFront kept.text.now text more
      → AreCellsIn laid shape text kept.cells more
  cells_again kept text more seen shared local is front =
      let k = is.known front.some in
      let q = k.lists in
      let V = value_lines laid shape q in
      let P = pending_lines laid shape q in
      let F = fresh_lines laid shape q in
      let S = stored_lines laid shape q in
      let stands : text ≡ lines_onto V (lines_onto P (lines_onto F (lines_onto S more))) =
      front.is ∙ (ap (λ t. t ++ more) k.is ∙ (lines_before (cells_lines laid shape q) [] more ∙ in_front q more)) in
      let s-lawful = marks_lawful (codes "s") s_is shape.local.items q.stored k.stored in
      let f-lawful = marks_lawful (codes "f") f_is shape.seen.items q.fresh k.fresh in
      let none_fresh : IsNotTagged (codes "f") (lines_onto S more) =
      ends_rows (codes "f") f_is (codes "s") (mark_row (codes "s")) AnyMark (mark_after (codes "s")) (mark_have (codes "s"))
      (λ e. omega arith) shape.local.items q.stored more s-lawful front.ends.fresh in
      let none_pending : IsNotTagged (codes "p") (lines_onto F (lines_onto S more)) =
      ends_rows (codes "p") p_is (codes "f") (mark_row (codes "f")) AnyMark (mark_after (codes "f")) (mark_have (codes "f"))
      (λ e. omega arith) shape.seen.items q.fresh (lines_onto S more) f-lawful
      (ends_rows (codes "p") p_is (codes "s") (mark_row (codes "s")) AnyMark (mark_after (codes "s"))
      (mark_have (codes "s")) (λ e. omega arith) shape.local.items q.stored more s-lawful front.ends.pending) in
      record {
        lists = q;
        behind_values = lines_onto P (lines_onto F (lines_onto S more));
        behind_pending = lines_onto F (lines_onto S more);
        behind_fresh = lines_onto S more;
        values = subst (λ t. IsRunOfValues laid shape t q.values (lines_onto P (lines_onto F (lines_onto S more))))
            (sym stands)
            (values_moved (codes "c") c_is (InExtents laid shape.kinds.items) shape.seen.items k.before k.behind q.values
            (lines_onto P (lines_onto F (lines_onto S more))) k.values);
        pending = numbers_of (codes "p") p_is (Within shape.mask) shape.shared.items q.pending
            (lines_onto F (lines_onto S more)) (distinct 0 shape.shared.items shared) k.pending none_pending;
        fresh = marks_of (codes "f") f_is shape.seen.items q.fresh (lines_onto S more) (distinct 0 shape.seen.items seen)
            k.fresh none_fresh;
        stored = marks_of (codes "s") s_is shape.local.items q.stored more (distinct 0 shape.local.items local) k.stored
            front.ends.stored;
        are = k.are;
      }
