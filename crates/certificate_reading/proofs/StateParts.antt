-- Between a state that fits and its lists: each is of the other, they have the same lines, and lists are of one state.
use Rattle.std.proofs.Common.{◌≡◌, refl, sym, ap, subst, ◌∙◌, ℕ, ◌<◌, ◌^◌, Bool, true, false, List, ◌++◌}
use Rattle.std.proofs.Common.{get_or, Option, Some, None}
use Rattle.std.specs.Prelude.{codes, not}
use Rattle.std.specs.List.{filter, flat_map}
use Rattle.std.specs.FinMap.{get, entries, same_entries_map}
use Rattle.tm_lattice.specs.Tables.{IsEntry}
use Rattle.cell_env.specs.Cells as sets
use Rattle.cell_env.specs.Cells.{IsCell}
use Rattle.cell_env.specs.Temps.{IsTemp}
use Rattle.pointer_dom.specs.Values.{IsValues}
use Rattle.interfere_set.specs.laws.Joins.{IsOf, entry_of, of_entry}
use Rattle.transfer_rows.specs.Accesses.{is_among}
use Rattle.transfer_rows.specs.StateForms.{Temp, Cell, State}
use Rattle.tm_laid.specs.Layouts.{LaidTree, abstract_at}
use Rattle.edge_actions.specs.Layouts.{is_shared_cell}
use Rattle.temporary_extents.specs.declared.extents.Extent.{Extent}
use Rattle.temporary_extents.specs.Extents.{IsWithin}
use Rattle.post_recheck.specs.state_fits.Fits.{IsSeenCell, FitsTemp, FitsCopy, IsSeenCopy, FitsCell, IsCellOf}
use Rattle.post_recheck.specs.state_fits.Fits.{FitsPlace}
use Rattle.post_recheck.specs.state_fits.Kinds.{InExtents}
use Rattle.post_recheck.specs.state_fits.laws.ExtentKinds.{extents_are_kinds}
use Rattle.certificate_words.specs.Words.{AreLines}
use Rattle.certificate_texts.specs.StateLines.{temp_lines, cell_lines, pending_lines, fresh_lines, stored_lines}
use Rattle.certificate_texts.specs.StateLines.{copy_lines, state_lines}
use Rattle.certificate_reading.specs.declared.shapes.Shape.{Shape}
use Rattle.certificate_reading.specs.reading.Shapes.{RiseFrom, IsShape}
use Rattle.certificate_reading.specs.reading.Parts.{Parts, FitsMarked, FitParts, part_lines, temps_of, cells_of}
use Rattle.certificate_reading.specs.reading.Parts.{IsOfParts}
use Rattle.certificate_reading.proofs.ValuesRead.{of_extent, in_extent}
use Rattle.certificate_reading.proofs.StateKeys.{same_keys, of_filter, filter_of, filter_rises, keys, keys_of_filter}
use Rattle.certificate_reading.proofs.StateKeys.{by_entry, keys_are, of_among, among_of}
use Rattle.certificate_reading.proofs.StateLists.{some_pending, shared_in, local_in, state_parts, same_temps}
use Rattle.certificate_reading.proofs.StateLists.{same_cells, AllPending, AllMarks, all_fit, lines_split, lines_of_each}
use Rattle.certificate_reading.proofs.StateLists.{row_fits, pending_fits, copy_fits}
use Rattle.certificate_reading.proofs.StateCells.{AreTemps, are_temps, AreCells, are_cells, IsTempIn, IsCellIn}

-- lists are of one state
pub one_state : (laid : LaidTree) (shape : Shape) (live : List ℕ) (t s : State) (q : Parts)
    → IsOfParts laid shape live q t → IsOfParts laid shape live q s → t ≡ s
one_state laid shape live t s q t-is s-is =
    let temps = same_entries_map t.temps s.temps (t-is.temps ∙ sym s-is.temps) in
    let cells = same_entries_map t.cells s.cells (t-is.cells ∙ sym s-is.cells) in
    (λ i. record { temps = temps i; cells = cells i })

module _ (laid : LaidTree) (task : ℕ) (extents : List Extent) (shape : Shape) (live : List ℕ)
    (is : IsShape laid task shape) (rises : RiseFrom 0 live) where
  abbrev shared : ℕ → Bool
  shared = is_shared_cell laid

  not_true : (b : Bool) → not b ≡ true → b ≡ false
  not_true true h = sym h
  not_true false h = refl

  shared_is : shape.shared.items ≡ filter shared shape.seen.items
  shared_is =
      same_keys 0 shape.shared.items (filter shared shape.seen.items) is.shared.rising
      (filter_rises shared 0 shape.seen.items is.seen.rising)
      (λ k m. (let a = is.shared.are k m in filter_of shared shape.seen.items k (is.seen.all k a.0) a.1))
      (λ k m. (let a = of_filter shared shape.seen.items k m in is.shared.all k (is.seen.are k a.0, a.1)))

  local_is : shape.local.items ≡ filter (λ x. not (shared x)) shape.seen.items
  local_is =
      same_keys 0 shape.local.items (filter (λ x. not (shared x)) shape.seen.items) is.local.rising
      (filter_rises (λ x. not (shared x)) 0 shape.seen.items is.seen.rising)
      (λ k m. (let a = is.local.are k m in
      filter_of (λ x. not (shared x)) shape.seen.items k (is.seen.all k a.0) (ap not a.1)))
      (λ k m. (let a = of_filter (λ x. not (shared x)) shape.seen.items k m in
      is.local.all k (is.seen.are k a.0, not_true (shared k) a.1)))

  -- ## From a state

  module _ (t : State) (fits : FitsPlace laid task (InExtents laid extents) live t) where
    temp_fits : (e : ℕ × Temp) → IsOf (entries t.temps) e → FitsTemp (InExtents laid extents) live e.0 (Some e.1)
    temp_fits e m = subst (FitsTemp (InExtents laid extents) live e.0) (of_entry t.temps e m) (fits.temps e.0)

    copy_seen : (e : ℕ × Temp) → IsOf (entries t.temps) e → FitsCopy laid task (Some e.1)
    copy_seen e m = subst (FitsCopy laid task) (of_entry t.temps e m) (fits.copies e.0)

    cell_fits : (e : ℕ × Cell) → IsOf (entries t.cells) e → FitsCell laid task e.0 (Some e.1)
    cell_fits e m = subst (FitsCell laid task e.0) (of_entry t.cells e m) (fits.cells e.0)

    temp_keys : keys (entries t.temps) ≡ live
    temp_keys =
        keys_are t.temps live rises
        (λ k v e. of_among live k (subst (FitsTemp (InExtents laid extents) live k) e (fits.temps k)).0)
        (λ k m e. (let none = subst (FitsTemp (InExtents laid extents) live k) e (fits.temps k) in
        let no : true ≡ false = sym (among_of live k m) ∙ none in cc))

    cell_keys : keys (entries t.cells) ≡ shape.seen.items
    cell_keys =
        keys_are t.cells shape.seen.items is.seen.rising
        (λ k c e. is.seen.all k (subst (FitsCell laid task k) e (fits.cells k)).0)
        (λ k m e. (subst (FitsCell laid task k) e (fits.cells k)) (is.seen.are k m))

    -- the lists of a state are its lists
    pub of_state : IsOfParts laid shape live (state_parts laid t) t
    of_state =
        let q = state_parts laid t in
        record {
          temps = sym (same_temps (entries t.temps)) ∙ ap (λ ks. temps_of ks q.temps q.copies) temp_keys;
          cells = sym (same_cells shared (entries t.cells)
              (λ e m. (let c = (cell_fits e m).1 in record { local = c.local; shared = c.shared })))
              ∙ ap (λ ks. cells_of shared ks q.cells q.pending q.fresh q.stored) cell_keys;
        }

    shared_keys : keys (shared_in shared (entries t.cells)) ≡ shape.shared.items
    shared_keys = keys_of_filter shared (entries t.cells) ∙ (ap (filter shared) cell_keys ∙ sym shared_is)

    local_keys : keys (local_in shared (entries t.cells)) ≡ shape.local.items
    local_keys =
        keys_of_filter (λ x. not (shared x)) (entries t.cells)
        ∙ (ap (filter (λ x. not (shared x))) cell_keys ∙ sym local_is)

    shared_of : (e : ℕ × Cell) → IsOf (shared_in shared (entries t.cells)) e → IsOf (entries t.cells) e
    shared_of e m = (of_filter (λ (d : ℕ × Cell). shared d.0) (entries t.cells) e m).0

    local_of : (e : ℕ × Cell) → IsOf (local_in shared (entries t.cells)) e → IsOf (entries t.cells) e
    local_of e m = (of_filter (λ (d : ℕ × Cell). not (shared d.0)) (entries t.cells) e m).0

    in_kind : (e : ℕ × Cell) → IsOf (entries t.cells) e → InExtents laid shape.kinds.items e.0 e.1.value
    in_kind e m =
        let a = abstract_at laid e.0 in
        let c = cell_fits e m in
        subst (λ x. IsWithin laid x e.1.value) (sym (is.kinds e.0 c.0)) (in_extent laid a.scalar e.1.value c.1.value)

    in_mask : (e : ℕ × Cell) → IsOf (entries t.cells) e → sets.IsWithin e.1.pending shape.mask
    in_mask e m = subst (sets.IsWithin e.1.pending) (sym is.mask) (cell_fits e m).1.pending

    is_marked : (e : ℕ × Temp) → IsOf (entries t.temps) e → (x : ℕ) → e.1.copy ≡ Some x
        → get_or shape.marks.items x false ≡ true
    is_marked e m x h = is.marks x (subst (IsSeenCopy laid task) h (copy_seen e m))

    -- and what stands in lawful lines fits
    module _ (lawful : AreLines (state_lines t)) where
      from_cells : AreLines (flat_map temp_lines (entries t.temps)) × AreLines (flat_map cell_lines (entries t.cells)
          ++ (flat_map pending_lines (entries t.cells) ++ (flat_map fresh_lines (entries t.cells)
          ++ (flat_map stored_lines (entries t.cells) ++ flat_map copy_lines (entries t.temps)))))
      from_cells = lines_split (flat_map temp_lines (entries t.temps)) _ lawful

      temp_lawful : (e : ℕ × Temp) → IsOf (entries t.temps) e → AreLines (temp_lines e)
      temp_lawful = lines_of_each temp_lines (entries t.temps) from_cells.0

      cell_lawful : (e : ℕ × Cell) → IsOf (entries t.cells) e → AreLines (cell_lines e)
      cell_lawful =
          lines_of_each cell_lines (entries t.cells)
          (lines_split (flat_map cell_lines (entries t.cells)) _ from_cells.1).0

      cell_key : (e : ℕ × Cell) → IsOf (entries t.cells) e → e.0 < 2 ^ 64
      cell_key e m = (cell_lawful e m).0.1.0

      from_fresh : AreLines (flat_map pending_lines (entries t.cells)) × AreLines (flat_map fresh_lines
          (entries t.cells) ++ (flat_map stored_lines (entries t.cells) ++ flat_map copy_lines (entries t.temps)))
      from_fresh =
          lines_split (flat_map pending_lines (entries t.cells)) _
          (lines_split (flat_map cell_lines (entries t.cells)) _ from_cells.1).1

      copy_lawful : (e : ℕ × Temp) → IsOf (entries t.temps) e → AreLines (copy_lines e)
      copy_lawful =
          lines_of_each copy_lines (entries t.temps)
          (lines_split (flat_map stored_lines (entries t.cells)) (flat_map copy_lines (entries t.temps))
          (lines_split (flat_map fresh_lines (entries t.cells)) _ from_fresh.1).1).1

      pub parts_fit : FitParts laid extents shape live (state_parts laid t)
      parts_fit =
          let temps = entries t.temps in
          let cells = entries t.cells in
          record {
            temps = all_fit _ (λ (v : Temp). v.value) temps live temp_keys (λ e m.
                row_fits (InExtents laid extents) (codes "t") e.0 e.1.value (temp_fits e m).1 (temp_lawful e m));
            cells = all_fit _ (λ (c : Cell). c.value) cells shape.seen.items cell_keys (λ e m.
                row_fits (InExtents laid shape.kinds.items) (codes "c") e.0 e.1.value (in_kind e m) (cell_lawful e m));
            pending = all_fit _ (λ (c : Cell). some_pending c.pending) (shared_in shared cells) shape.shared.items
                shared_keys (λ e m. (let n = shared_of e m in
                pending_fits shape.mask e.0 e.1.pending (cell_key e n) (in_mask e n)
                (lines_of_each pending_lines cells from_fresh.0 e n)));
            fresh = all_fit _ (λ (c : Cell). c.fresh) cells shape.seen.items cell_keys cell_key;
            stored = all_fit _ (λ (c : Cell). c.stored) (local_in shared cells) shape.local.items local_keys
                (λ e m. cell_key e (local_of e m));
            copies = all_fit _ (λ (v : Temp). v.copy) temps live temp_keys (λ e m.
                copy_fits shape.marks.items e.0 e.1.copy (temp_lawful e m).0.1.0 (is_marked e m) (copy_lawful e m));
          }

  -- ## From lists

  module _ (s : State) (q : Parts) (fit : FitParts laid extents shape live q) (of : IsOfParts laid shape live q s) where
    temps : AreTemps (InExtents laid extents) shape.marks.items live q.temps q.copies (entries s.temps)
    temps =
        subst (AreTemps (InExtents laid extents) shape.marks.items live q.temps q.copies) (sym of.temps)
        (are_temps (InExtents laid extents) shape.marks.items live q.temps q.copies fit.temps fit.copies)

    -- the entries, where these are the shared and the local cells
    abbrev AreCellsOf : List ℕ → List ℕ → List (ℕ × Cell) → Type 0
    AreCellsOf shareds locals es = AreCells (InExtents laid shape.kinds.items) shape.mask shared shape.seen.items
        shareds locals q.cells q.pending q.fresh q.stored es

    cells : AreCellsOf shape.shared.items shape.local.items (entries s.cells)
    cells =
        let es = cells_of shared shape.seen.items q.cells q.pending q.fresh q.stored in
        subst (AreCellsOf shape.shared.items shape.local.items) (sym of.cells)
        (subst (λ ks. AreCellsOf ks shape.local.items es) (sym shared_is)
        (subst (λ ks. AreCellsOf (filter shared shape.seen.items) ks es) (sym local_is)
        (are_cells (InExtents laid shape.kinds.items) shape.mask shared shape.seen.items q.cells q.pending q.fresh
        q.stored fit.cells (subst (λ ks. AllPending shape.mask ks q.pending) shared_is fit.pending)
        fit.fresh (subst (λ ks. AllMarks (codes "s") ks q.stored) local_is fit.stored))))

    -- the lines are those of the lists
    pub lines_of : state_lines s ≡ part_lines laid extents shape live q
    lines_of =
        λ i. temps.values i
        ++ (cells.values i ++ (cells.pending i ++ (cells.fresh i ++ (cells.stored i ++ temps.copies i))))

    temp_at : (t : ℕ) (v : Temp) → get s.temps t ≡ Some v
        → IsOf live t × IsTempIn (InExtents laid extents) shape.marks.items (t, v)
    temp_at t v e = temps.each (t, v) (entry_of s.temps t v e)

    cell_at : (x : ℕ) (c : Cell) → get s.cells x ≡ Some c
        → IsOf shape.seen.items x × IsCellIn (InExtents laid shape.kinds.items) shape.mask shared (x, c)
    cell_at x c e = cells.each (x, c) (entry_of s.cells x c e)

    temp_values : (t : ℕ) → IsEntry (IsTemp IsValues) (λ v. ⊥) (get s.temps t)
    temp_values t =
        by_entry s.temps t (IsEntry (IsTemp IsValues) (λ v. ⊥)) (λ e. tt)
        (λ v e. ((extents_are_kinds laid extents).values t v.value (temp_at t v e).1.value, λ no. no))

    cell_values : (x : ℕ) → IsEntry (IsCell IsValues) (λ c. ⊥) (get s.cells x)
    cell_values x =
        by_entry s.cells x (IsEntry (IsCell IsValues) (λ c. ⊥)) (λ e. tt)
        (λ c e. ((extents_are_kinds laid shape.kinds.items).values x c.value (cell_at x c e).1.value, λ no. no))

    no_temp : (t : ℕ) → get s.temps t ≡ None → is_among live t ≡ false
    no_temp t e = not_among (is_among live t) refl
      where
        not_among : (b : Bool) → is_among live t ≡ b → b ≡ false
        not_among false h = refl
        not_among true h =
            let a = temps.all t (of_among live t h) in
            let f : get s.temps t ≡ Some a.0 = of_entry s.temps (t, a.0) a.1 in cc

    fits_temp : (t : ℕ) → FitsTemp (InExtents laid extents) live t (get s.temps t)
    fits_temp t =
        by_entry s.temps t (FitsTemp (InExtents laid extents) live t) (no_temp t)
        (λ v e. (let h = temp_at t v e in (among_of live t h.0, h.1.value)))

    seen_copy : (t : ℕ) (copy : Option ℕ) → FitsMarked shape.marks.items t copy → IsSeenCopy laid task copy
    seen_copy t None h = tt
    seen_copy t (Some x) h = is.marked x h.2

    fits_copy : (t : ℕ) → FitsCopy laid task (get s.temps t)
    fits_copy t =
        by_entry s.temps t (FitsCopy laid task) (λ e. tt) (λ v e. seen_copy t v.copy (temp_at t v e).1.copy)

    is_cell : (x : ℕ) (c : Cell) → IsSeenCell laid task x
        → IsCellIn (InExtents laid shape.kinds.items) shape.mask shared (x, c) → IsCellOf laid x c
    is_cell x c seen h =
        let a = abstract_at laid x in
        record {
          value = of_extent laid a.scalar c.value (subst (λ e. IsWithin laid e c.value) (is.kinds x seen) h.value);
          pending = subst (sets.IsWithin c.pending) is.mask h.pending;
          local = h.kind.local;
          shared = h.kind.shared;
        }

    fits_cell : (x : ℕ) → FitsCell laid task x (get s.cells x)
    fits_cell x =
        by_entry s.cells x (FitsCell laid task x)
        (λ e seen. (let a = cells.all x (is.seen.all x seen) in
        let f : get s.cells x ≡ Some a.0 = of_entry s.cells (x, a.0) a.1 in cc))
        (λ c e. (let h = cell_at x c e in let seen = is.seen.are x h.0 in (seen, is_cell x c seen h.1)))

    -- and the state fits
    pub fits_place : FitsPlace laid task (InExtents laid extents) live s
    fits_place = record {
      form = record { temps = temp_values; cells = cell_values };
      temps = fits_temp;
      copies = fits_copy;
      cells = fits_cell;
    }
