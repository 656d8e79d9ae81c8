-- The entries that lists make: their lines, and what stands in them.
use Rattle.std.proofs.Common.{◌≡◌, refl, ap, ℕ, Bool, true, false, cond, List, [], ◌∷◌, ◌++◌, drop, get_or}
use Rattle.std.proofs.Common.{Option, Some, None, inl, inr, subst, sym, ◌∙◌}
use Rattle.std.specs.Prelude.{codes, not}
use Rattle.std.specs.List.{filter, flat_map}
use Rattle.cell_env.specs.Cells.{IsWithin}
use Rattle.pointer_dom.specs.Values.{Values}
use Rattle.interfere_set.specs.laws.Joins.{IsOf}
use Rattle.transfer_rows.specs.StateForms.{Temp, Cell}
use Rattle.certificate_parts.specs.declared.rows.Allowed.TheVariants.{Within}
use Rattle.certificate_parts.specs.Runs.{rows}
use Rattle.certificate_parts.specs.Rows.{mark_row, AnyMark, mark_after}
use Rattle.certificate_parts.specs.Numbers.{FitsNumber, number_row, number_after}
use Rattle.certificate_texts.specs.StateLines.{temp_lines, cell_lines, pending_lines, pending_line_of, fresh_lines}
use Rattle.certificate_texts.specs.StateLines.{stored_lines, copy_lines, copy_line_of}
use Rattle.certificate_texts.proofs.Telling.{pending_some}
use Rattle.certificate_reading.specs.Rows.{value_row, FitsRow, AnyText}
use Rattle.certificate_reading.specs.reading.Parts.{FitsMarked, temps_of, cells_of, or_none, shared_cell, local_cell}
use Rattle.certificate_reading.proofs.StateLists.{IsSharedOrLocal, AllValues, AllPending, AllMarks, AllCopies}

-- ## Temporaries

copy_row : (t : ℕ) (copy : Option ℕ) → copy_line_of t copy ≡ number_row (codes "k") t copy
copy_row t None = refl
copy_row t (Some x) = refl

module _ (Fits : ℕ → Values → Type 0) (marks : List Bool) where
  -- the value and the copy may stand in lines
  pub record IsTempIn (e : ℕ × Temp) : Type 0 where
    pub value : Fits e.0 e.1.value
    pub copy : FitsMarked marks e.0 e.1.copy

  -- the entries have these lines, and each of the numbers has an entry
  pub record AreTemps (ts : List ℕ) (vs : List Values) (cs : List (Option ℕ)) (es : List (ℕ × Temp)) : Type 0 where
    pub values : flat_map temp_lines es ≡ rows (value_row (codes "t")) (FitsRow Fits) AnyText ts vs
    pub copies : flat_map copy_lines es
        ≡ rows (number_row (codes "k")) (FitsMarked marks) (number_after (codes "k")) ts cs
    pub each : (e : ℕ × Temp) → IsOf es e → IsOf ts e.0 × IsTempIn e
    pub all : (t : ℕ) → IsOf ts t → (v : Temp) × IsOf es (t, v)

  pub are_temps : (ts : List ℕ) (vs : List Values) (cs : List (Option ℕ)) → AllValues (codes "t") Fits ts vs
      → AllCopies marks ts cs → AreTemps ts vs cs (temps_of ts vs cs)
  are_temps [] vs cs v-fit c-fit = record {
    values = refl;
    copies = refl;
    each = λ e m. absurd m;
    all = λ t m. absurd m;
  }
  are_temps (t ∷ ts) [] cs v-fit c-fit = absurd v-fit
  are_temps (t ∷ ts) (v ∷ vs) [] v-fit c-fit = absurd c-fit
  are_temps (t ∷ ts) (v ∷ vs) (c ∷ cs) v-fit c-fit = one_more (are_temps ts vs cs v-fit.1 c-fit.1)
    where
      one_more : AreTemps ts vs cs (temps_of ts vs cs)
          → AreTemps (t ∷ ts) (v ∷ vs) (c ∷ cs) (temps_of (t ∷ ts) (v ∷ vs) (c ∷ cs))
      one_more rest = record {
        values = ap (λ ls. value_row (codes "t") t v ++ ls) rest.values;
        copies = λ i. copy_row t c i ++ rest.copies i;
        each = each;
        all = all;
      }
        where
          each : (e : ℕ × Temp) → IsOf (temps_of (t ∷ ts) (v ∷ vs) (c ∷ cs)) e → IsOf (t ∷ ts) e.0 × IsTempIn e
          each e (inl h) = (
            inl (ap (λ (x : ℕ × Temp). x.0) h),
            subst IsTempIn (sym h) (record { value = v-fit.0.fits; copy = c-fit.0 }),
          )
          each e (inr m) = let r = rest.each e m in (inr r.0, r.1)

          all : (u : ℕ) → IsOf (t ∷ ts) u → (w : Temp) × IsOf (temps_of (t ∷ ts) (v ∷ vs) (c ∷ cs)) (u, w)
          all u (inl h) = (record { value = v; copy = c }, inl (λ i. (h i, record { value = v; copy = c })))
          all u (inr m) = let r = rest.all u m in (r.0, inr r.1)

-- ## Cells

pending_row : (mask x : ℕ) (p : Option ℕ) → FitsNumber (Within mask) x p
    → pending_line_of x (or_none p) ≡ number_row (codes "p") x p
pending_row mask x None h = refl
pending_row mask x (Some n) h = pending_some x n h.2.some

within_all : (mask x : ℕ) (p : Option ℕ) → FitsNumber (Within mask) x p → IsWithin (or_none p) mask
within_all mask x None h = refl
within_all mask x (Some n) h = h.2.within

module _ (Fits : ℕ → Values → Type 0) (mask : ℕ) (shared : ℕ → Bool) where
  -- the parts of the cell may stand in lines
  pub record IsCellIn (e : ℕ × Cell) : Type 0 where
    pub value : Fits e.0 e.1.value
    pub pending : IsWithin e.1.pending mask
    pub kind : IsSharedOrLocal (shared e.0) e.1

  -- the entries have these lines, and each of the numbers has an entry
  pub record AreCells (xs shareds locals : List ℕ) (vs : List Values) (ps : List (Option ℕ)) (fs ss : List Bool)
      (es : List (ℕ × Cell)) : Type 0 where
    pub values : flat_map cell_lines es ≡ rows (value_row (codes "c")) (FitsRow Fits) AnyText xs vs
    pub pending : flat_map pending_lines es
        ≡ rows (number_row (codes "p")) (FitsNumber (Within mask)) (number_after (codes "p")) shareds ps
    pub fresh : flat_map fresh_lines es ≡ rows (mark_row (codes "f")) AnyMark (mark_after (codes "f")) xs fs
    pub stored : flat_map stored_lines es ≡ rows (mark_row (codes "s")) AnyMark (mark_after (codes "s")) locals ss
    pub each : (e : ℕ × Cell) → IsOf es e → IsOf xs e.0 × IsCellIn e
    pub all : (x : ℕ) → IsOf xs x → (c : Cell) × IsOf es (x, c)

  module _ (x : ℕ) (v : Values) (f : Bool) (row : FitsRow Fits x v) (xs shareds locals : List ℕ) (vs : List Values)
      (fs : List Bool) where
    -- entries of the rest, and one more
    each_of : (c : Cell) (es : List (ℕ × Cell)) → IsCellIn (x, c)
        → ((e : ℕ × Cell) → IsOf es e → IsOf xs e.0 × IsCellIn e)
        → (e : ℕ × Cell) → IsOf ((x, c) ∷ es) e → IsOf (x ∷ xs) e.0 × IsCellIn e
    each_of c es is rest e (inl h) = (inl (ap (λ (y : ℕ × Cell). y.0) h), subst IsCellIn (sym h) is)
    each_of c es is rest e (inr m) = let r = rest e m in (inr r.0, r.1)

    all_of : (c : Cell) (es : List (ℕ × Cell)) → ((y : ℕ) → IsOf xs y → (d : Cell) × IsOf es (y, d))
        → (y : ℕ) → IsOf (x ∷ xs) y → (d : Cell) × IsOf ((x, c) ∷ es) (y, d)
    all_of c es rest y (inl h) = (c, inl (λ i. (h i, c)))
    all_of c es rest y (inr m) = let r = rest y m in (r.0, inr r.1)

    module _ (rest : (ps : List (Option ℕ)) (ss : List Bool) → AllPending mask shareds ps
        → AllMarks (codes "s") locals ss
        → AreCells xs shareds locals vs ps fs ss (cells_of shared xs vs ps fs ss)) where
      one_cell : (b : Bool) (ps : List (Option ℕ)) (ss : List Bool) → shared x ≡ b
          → AllPending mask (cond b (x ∷ shareds) shareds) ps
          → AllMarks (codes "s") (cond (not b) (x ∷ locals) locals) ss
          → AreCells (x ∷ xs) (cond b (x ∷ shareds) shareds) (cond (not b) (x ∷ locals) locals) (v ∷ vs) ps (f ∷ fs) ss
          (cond b ((x, shared_cell v (get_or ps 0 None) f) ∷ cells_of shared xs vs (drop 1 ps) fs ss)
          ((x, local_cell v f (get_or ss 0 false)) ∷ cells_of shared xs vs ps fs (drop 1 ss)))
      one_cell true [] ss h p-fit s-fit = absurd p-fit
      one_cell true (p ∷ ps) ss h p-fit s-fit =
          let more = rest ps ss p-fit.1 s-fit in
          let es = cells_of shared xs vs ps fs ss in
          record {
            values = ap (λ ls. value_row (codes "c") x v ++ ls) more.values;
            pending = λ i. pending_row mask x p p-fit.0 i ++ more.pending i;
            fresh = ap (λ ls. mark_row (codes "f") x f ++ ls) more.fresh;
            stored = more.stored;
            each = each_of (shared_cell v p f) es (record {
              value = row.fits;
              pending = within_all mask x p p-fit.0;
              kind = record { local = λ l. (let e : true ≡ false = sym h ∙ l in cc); shared = λ l. refl };
            }) more.each;
            all = all_of (shared_cell v p f) es more.all;
          }
      one_cell false ps [] h p-fit s-fit = absurd s-fit
      one_cell false ps (s ∷ ss) h p-fit s-fit =
          let more = rest ps ss p-fit s-fit.1 in
          let es = cells_of shared xs vs ps fs ss in
          record {
            values = ap (λ ls. value_row (codes "c") x v ++ ls) more.values;
            pending = more.pending;
            fresh = ap (λ ls. mark_row (codes "f") x f ++ ls) more.fresh;
            stored = ap (λ ls. mark_row (codes "s") x s ++ ls) more.stored;
            each = each_of (local_cell v f s) es (record {
              value = row.fits;
              pending = refl;
              kind = record { local = λ l. refl; shared = λ l. (let e : true ≡ false = sym l ∙ h in cc) };
            }) more.each;
            all = all_of (local_cell v f s) es more.all;
          }

  pub are_cells : (xs : List ℕ) (vs : List Values) (ps : List (Option ℕ)) (fs ss : List Bool)
      → AllValues (codes "c") Fits xs vs → AllPending mask (filter shared xs) ps → AllMarks (codes "f") xs fs
      → AllMarks (codes "s") (filter (λ x. not (shared x)) xs) ss
      → AreCells xs (filter shared xs) (filter (λ x. not (shared x)) xs) vs ps fs ss (cells_of shared xs vs ps fs ss)
  are_cells [] vs ps fs ss v-fit p-fit f-fit s-fit = record {
    values = refl;
    pending = refl;
    fresh = refl;
    stored = refl;
    each = λ e m. absurd m;
    all = λ x m. absurd m;
  }
  are_cells (x ∷ xs) [] ps fs ss v-fit p-fit f-fit s-fit = absurd v-fit
  are_cells (x ∷ xs) (v ∷ vs) ps [] ss v-fit p-fit f-fit s-fit = absurd f-fit
  are_cells (x ∷ xs) (v ∷ vs) ps (f ∷ fs) ss v-fit p-fit f-fit s-fit =
      one_cell x v f v-fit.0 xs (filter shared xs) (filter (λ y. not (shared y)) xs) vs fs
      (λ qs ts p-rest s-rest. are_cells xs vs qs fs ts v-fit.1 p-rest f-fit.1 s-rest) (shared x) ps ss refl p-fit s-fit
