-- What an action leads to fits again.
use Rattle.std.specs.Prelude.{◌≡◌, ℕ, Bool, true, false, ◌||◌, cond, eqb, bit_or, List, Option, Some, None, refl}
use Rattle.std.proofs.Common.{sym, ap, subst, ◌∙◌, inl, inr}
use Rattle.std.specs.FinMap.{get, insert}
use Rattle.std.proofs.lemmas.Bool.{cases_eq, false≢true, or_cases}
use Rattle.value_heights.specs.tm_lattice.Tables.{Table, changed_table}
use Rattle.value_heights.specs.tm_lattice.laws.TableLaws.{get-insert_here, get-insert_there}
use Rattle.value_heights.specs.tm_lattice.laws.SelectedLaws.{changed_at, get-changed_table}
use Rattle.temporary_types.specs.tm_laid.Layouts.{LaidTree, abstract_at}
use Rattle.value_heights.specs.pointer_dom.Values.{Values, IsValues, no_value}
use Rattle.edge_actions.specs.cell_env.Cells.{IsWithin}
use Rattle.edge_actions.specs.cell_env.laws.Bits.{within_least}
use Rattle.edge_actions.specs.interfere_set.Stores.{Interferences, visible, handed}
use Rattle.typed_values.specs.operator_values.MetValues.{met_values}
use Rattle.edge_actions.specs.transfer_rows.StateForms.{Temp, Cell, State, is_no_value, temp_value, value_of}
use Rattle.edge_actions.specs.Layouts.{is_shared_cell}
use Rattle.edge_actions.specs.transfer_rows.Actions.{Around}
use Rattle.edge_actions.specs.transfer_rows.Accesses.{is_among}
use Rattle.edge_actions.specs.transfer_rows.Rows.{given, aged, overwriting, joining, cleared_to, met_where, refined}
use Rattle.edge_actions.specs.transfer_rows.Rows.{kept_copy, dropped}
use Rattle.edge_actions.specs.transfer_rows.Rows.{found_in, taken, stored_cell, is_contradicted, refined_from}
use Rattle.edge_actions.specs.transfer_rows.Rows.{after_refined}
use Rattle.typed_values.specs.Types.{AreObjects, IsOfType}
use Rattle.typed_values.specs.laws.TypeLaws.{none_of_type, joined_of_type, met_of_type}
use Rattle.state_fits.specs.Fits.{AreKinds, file_set, FitsCopy, IsSeenCopy, FitsCell, IsCellOf}
use Rattle.state_fits.specs.laws.StoresFit.{cond_typed, visible_typed, handed_typed, AreTyped}

-- The temporaries that are live next, what each may hold, and the task at the node that the edge leaves.
module _ (laid : LaidTree) (task : ℕ) (Holds : ℕ → Values → Type 0) (kinds : AreKinds laid Holds)
    (next : ℕ → Bool) where
  -- a temporary has a value that it may hold, or is not live next
  abbrev pub NextTemp : ℕ → Option Temp → Type 0
  NextTemp t None = next t ≡ false
  NextTemp t (Some e) = Holds t e.value

  -- all values are such, and all temporaries but the target have values where they are live next
  pub record IsNext (target : Option ℕ) (s : State) : Type 0 where
    pub typed : (t : ℕ) (e : Temp) → get s.temps t ≡ Some e → Holds t e.value
    pub temps : (t : ℕ) → (target ≡ Some t → ⊥) → NextTemp t (get s.temps t)
    pub copies : (t : ℕ) → FitsCopy laid task (get s.temps t)
    pub cells : (x : ℕ) → FitsCell laid task x (get s.cells x)

  -- the state that there may be is so, and no target is left
  abbrev pub MayBeNext : Option State → Type 0
  MayBeNext a = (s : State) → a ≡ Some s → IsNext None s

  pub none_next : MayBeNext None
  none_next s e = absurd (let h : (let k : Option State = None in k ≡ Some s) = e in cc)

  pub some_next : (x : State) → IsNext None x → MayBeNext (Some x)
  some_next x h s e = subst (IsNext None) (let same : (let k : Option State = Some x in k ≡ Some s) = e in
      let is : x ≡ s = cc in is) h

  pub cond_next : (b : Bool) (x : State) → IsNext None x → MayBeNext (cond b None (Some x))
  cond_next true x h = none_next
  cond_next false x h = some_next x h

  pub where_next : (b : Bool) (x : State) → IsNext None x → MayBeNext (cond b (Some x) None)
  where_next true x h = some_next x h
  where_next false x h = none_next

  -- the temporary may hold its value
  temp_typed : (t : ℕ) (a : Option Temp) → ((e : Temp) → a ≡ Some e → Holds t e.value)
      → Holds t (temp_value a)
  temp_typed t None h = kinds.none t
  temp_typed t (Some e) h = h e refl

  pub value_typed : (target : Option ℕ) (s : State) → IsNext target s → (t : ℕ) → Holds t (value_of s t)
  value_typed target s h t = temp_typed t (get s.temps t) (h.typed t)

  -- ## Changes of temporaries and cells

  typed_next : (target : Option ℕ) (t : ℕ) (a : Option Temp) → NextTemp t a → (e : Temp) → a ≡ Some e
      → Holds t e.value
  typed_next target t None h e at = absurd (let k : (let n : Option Temp = None in n ≡ Some e) = at in cc)
  typed_next target t (Some d) h e at =
      subst (λ (x : Temp). Holds t x.value) (let k : (let n : Option Temp = Some d in n ≡ Some e) =
      at in let same : d ≡ e = cc in same) h

  all_next : (s : State) → ((t : ℕ) → NextTemp t (get s.temps t)) → ((t : ℕ) → FitsCopy laid task (get s.temps t))
      → ((x : ℕ) → FitsCell laid task x (get s.cells x)) → IsNext None s
  all_next s temps copies cells = record {
    typed = λ t e at. typed_next None t (get s.temps t) (temps t) e at;
    temps = λ t other. temps t;
    copies = copies;
    cells = cells;
  }

  not_other : (k t : ℕ) → (t ≡ k → ⊥) → (let a : Option ℕ = Some k in a ≡ Some t) → ⊥
  not_other k t differ e = differ (let same : t ≡ k = cc in same)

  inserted_next : (temps : Table Temp) (k : ℕ) (e : Temp)
      → ((t : ℕ) → ((let a : Option ℕ = Some k in a ≡ Some t) → ⊥) → NextTemp t (get temps t))
      → Holds k e.value
      → (t : ℕ) → NextTemp t (get (insert temps k e) t)
  inserted_next temps k e others typed t = elim (cases_eq t k) [
    | inl here ↦ subst (NextTemp t) (sym (get-insert_here temps k e t here))
        (subst (λ u. Holds u e.value) (sym here) typed)
    | inr there ↦ subst (NextTemp t) (sym (get-insert_there temps k e t there)) (others t (not_other k t there))
  ]

  inserted_copies : (temps : Table Temp) (k : ℕ) (e : Temp) → ((t : ℕ) → FitsCopy laid task (get temps t))
      → IsSeenCopy laid task e.copy → (t : ℕ) → FitsCopy laid task (get (insert temps k e) t)
  inserted_copies temps k e others seen t = elim (cases_eq t k) [
    | inl here ↦ subst (FitsCopy laid task) (sym (get-insert_here temps k e t here)) seen
    | inr there ↦ subst (FitsCopy laid task) (sym (get-insert_there temps k e t there)) (others t)
  ]

  kept_seen : (test : ℕ → Bool) (copy : Option ℕ) → IsSeenCopy laid task copy
      → IsSeenCopy laid task (kept_copy test copy)
  kept_seen test None h = tt
  kept_seen test (Some x) h = by_test (test x)
    where
      by_test : (b : Bool) → IsSeenCopy laid task (cond b None (Some x))
      by_test true = tt
      by_test false = h

  kept_entry : (test : ℕ → Bool) (t : ℕ) (a : Option Temp) → FitsCopy laid task a
      → FitsCopy laid task (changed_at (λ u (e : Temp). record e { copy = kept_copy test e.copy }) t a)
  kept_entry test t None h = tt
  kept_entry test t (Some e) h = kept_seen test e.copy h

  dropped_copies : (test : ℕ → Bool) (temps : Table Temp) → ((t : ℕ) → FitsCopy laid task (get temps t)) → (t : ℕ)
      → FitsCopy laid task (get (dropped test temps) t)
  dropped_copies test temps h t =
      subst (FitsCopy laid task)
      (sym (get-changed_table (λ u (e : Temp). record e { copy = kept_copy test e.copy }) temps t))
      (kept_entry test t (get temps t) (h t))

  -- the target gets a value that it may hold
  pub given_next : (s : State) (t : ℕ) (v : Values) (copy : Option ℕ) → IsNext (Some t) s → Holds t v
      → IsSeenCopy laid task copy → MayBeNext (given s t v copy)
  given_next s t v copy h typed seen =
      cond_next (is_no_value v) record s { temps = insert s.temps t record { value = v; copy = copy } }
      (all_next record s { temps = insert s.temps t record { value = v; copy = copy } }
      (inserted_next s.temps t record { value = v; copy = copy } h.temps typed)
      (inserted_copies s.temps t record { value = v; copy = copy } h.copies seen) h.cells)

  kept_temp : (test : ℕ → Bool) (t : ℕ) (a : Option Temp) → NextTemp t a
      → NextTemp t (changed_at (λ u (e : Temp). record e { copy = kept_copy test e.copy }) t a)
  kept_temp test t None h = h
  kept_temp test t (Some e) h = h

  dropped_next : (test : ℕ → Bool) (temps : Table Temp) (t : ℕ) → NextTemp t (get temps t)
      → NextTemp t (get (dropped test temps) t)
  dropped_next test temps t h =
      subst (NextTemp t) (sym (get-changed_table (λ u (e : Temp). record e { copy = kept_copy test e.copy }) temps t))
      (kept_temp test t (get temps t) h)

  changed_cell : (change : ℕ → Cell → Cell) (x : ℕ) (a : Option Cell)
      → ((c : Cell) → IsCellOf laid x c → IsCellOf laid x (change x c)) → FitsCell laid task x a
      → FitsCell laid task x (changed_at change x a)
  changed_cell change x None keeps h = h
  changed_cell change x (Some c) keeps h = (h.0, keeps c h.1)

  pub changed_cells : (change : ℕ → Cell → Cell) (cells : Table Cell)
      → ((x : ℕ) (c : Cell) → IsCellOf laid x c → IsCellOf laid x (change x c))
      → ((x : ℕ) → FitsCell laid task x (get cells x)) → (x : ℕ)
      → FitsCell laid task x (get (changed_table change cells) x)
  changed_cells change cells keeps h x =
      subst (FitsCell laid task x) (sym (get-changed_table change cells x))
      (changed_cell change x (get cells x) (keeps x) (h x))

  -- other cells, with the temporaries as they are, and with copies that end
  pub cells_next : (s : State) (change : ℕ → Cell → Cell) → IsNext None s
      → ((x : ℕ) (c : Cell) → IsCellOf laid x c → IsCellOf laid x (change x c))
      → IsNext None record s { cells = changed_table change s.cells }
  cells_next s change h keeps =
      all_next record s { cells = changed_table change s.cells }
      (λ t. h.temps t (λ e. absurd (let k : (let a : Option ℕ = None in a ≡ Some t) = e in cc))) h.copies
      (changed_cells change s.cells keeps h.cells)

  pub ended_next : (s : State) (test : ℕ → Bool) (change : ℕ → Cell → Cell) → IsNext None s
      → ((x : ℕ) (c : Cell) → IsCellOf laid x c → IsCellOf laid x (change x c))
      → IsNext None record { temps = dropped test s.temps; cells = changed_table change s.cells }
  ended_next s test change h keeps =
      all_next record { temps = dropped test s.temps; cells = changed_table change s.cells }
      (λ t. dropped_next test s.temps t
      (h.temps t (λ e. absurd (let k : (let a : Option ℕ = None in a ≡ Some t) = e in cc))))
      (dropped_copies test s.temps h.copies) (changed_cells change s.cells keeps h.cells)

  pub ended_with : (s : State) (k : ℕ) (e : Temp) (test : ℕ → Bool) (change : ℕ → Cell → Cell) → IsNext (Some k) s
      → Holds k e.value → IsSeenCopy laid task e.copy
      → ((x : ℕ) (c : Cell) → IsCellOf laid x c → IsCellOf laid x (change x c))
      → IsNext None record { temps = insert (dropped test s.temps) k e; cells = changed_table change s.cells }
  ended_with s k e test change h typed seen keeps =
      all_next record { temps = insert (dropped test s.temps) k e; cells = changed_table change s.cells }
      (inserted_next (dropped test s.temps) k e (λ t other. dropped_next test s.temps t (h.temps t other)) typed)
      (inserted_copies (dropped test s.temps) k e (dropped_copies test s.temps h.copies) seen)
      (changed_cells change s.cells keeps h.cells)

  -- ## Refinements

  met_cell : (a : Option ℕ) (v : Values) (x : ℕ) (c : Cell) → IsValues v → AreObjects laid v.pointers
      → IsCellOf laid x c → IsCellOf laid x (met_where a v x c)
  met_cell None v x c v-is v-are h = h
  met_cell (Some y) v x c v-is v-are h = by_case (eqb x y)
    where
      by_case : (b : Bool) → IsCellOf laid x (cond b (record c { value = met_values c.value v }) c)
      by_case true = record {
        value =
            (let a = abstract_at laid x in met_of_type laid a.scalar c.value v h.value v-is v-are);
        pending = h.pending;
        local = h.local;
        shared = h.shared;
      }
      by_case false = h

  refined_is : (s : State) (t : ℕ) (v : Values) (copy : Option ℕ) → IsNext None s → Holds t v
      → IsSeenCopy laid task copy → IsNext None (refined s t v copy)
  refined_is s t v copy h typed seen =
      all_next (refined s t v copy)
      (inserted_next s.temps t record { value = v; copy = copy }
      (λ u other. h.temps u (λ e. absurd (let k : (let a : Option ℕ = None in a ≡ Some u) = e in cc))) typed)
      (inserted_copies s.temps t record { value = v; copy = copy } h.copies seen)
      (changed_cells (met_where copy v) s.cells
      (λ x c k. met_cell copy v x c (kinds.values t v typed) (kinds.objects t v typed)
      k) h.cells)

  from_next : (around : Around) (s : State) (t : ℕ) (v : Values) (a : Option Temp) → FitsCopy laid task a
      → IsNext None s → Holds t v → MayBeNext (refined_from around s t v a)
  from_next around s t v None seen h typed = none_next
  from_next around s t v (Some e) seen h typed =
      cond_next (is_no_value v || is_contradicted around (refined s t v e.copy) e.copy) (refined s t v e.copy)
      (refined_is s t v e.copy h typed seen)

  pub refine_next : (around : Around) (s : State) (t : ℕ) (v : Values) → IsNext None s → Holds t v
      → MayBeNext (after_refined around s t v)
  refine_next around s t v h typed = from_next around s t v (get s.temps t) (h.copies t) h typed

  -- ## Cells that are read and written

  module _ (around : Around) (store : Interferences) (weak : (x : ℕ)
      → (let a = abstract_at laid x in AreTyped laid a.scalar x store.weak))
      (sync : (x : ℕ) → (let a = abstract_at laid x in AreTyped laid a.scalar x store.sync))
      (held_in : IsWithin around.reader.held (file_set laid))
      (shares : (x : ℕ) → around.is_shared x ≡ is_shared_cell laid x)
    where
      pub found_typed : (x : ℕ) (a : Option Cell) → FitsCell laid task x a
          → (let c = abstract_at laid x in IsOfType laid c.scalar (found_in around store x a))
      found_typed x None h = (let c = abstract_at laid x in none_of_type laid c.scalar)
      found_typed x (Some c) h =
          let a = abstract_at laid x in
          joined_of_type laid a.scalar c.value
          (cond (around.is_shared x) (visible around.reader c.fresh x store) no_value) h.1.value
          (cond_typed laid a.scalar (around.is_shared x) (visible around.reader c.fresh x store) no_value
          (visible_typed laid a.scalar around.reader c.fresh x store (weak x)) (none_of_type laid a.scalar))

      pub taken_cell : (m x : ℕ) (c : Cell) → IsCellOf laid x c → IsCellOf laid x (taken around store m x c)
      taken_cell m x c h = record {
        value = (let a = abstract_at laid x in
            joined_of_type laid a.scalar c.value
            (cond (around.is_shared x) (handed around.reader.task m x store) no_value) h.value
            (cond_typed laid a.scalar (around.is_shared x) (handed around.reader.task m x store) no_value
            (handed_typed laid a.scalar around.reader.task m x store (sync x)) (none_of_type laid a.scalar)));
        pending = h.pending;
        local = h.local;
        shared = h.shared;
      }

      pub aged_cell : (x : ℕ) (c : Cell) → IsCellOf laid x c → IsCellOf laid x (aged c)
      aged_cell x c h = record { value = h.value; pending = h.pending; local = h.local; shared = h.shared }

      cond_within : (b : Bool) (p q : ℕ) → IsWithin p (file_set laid) → IsWithin q (file_set laid)
          → IsWithin (cond b p q) (file_set laid)
      cond_within true p q h k = h
      cond_within false p q h k = k

      at_local : (b : Bool) (p q : ℕ) → b ≡ false → q ≡ 0 → cond b p q ≡ 0
      at_local true p q e h = absurd (false≢true (sym e))
      at_local false p q e h = h

      at_shared : (b s : Bool) → b ≡ true → s ≡ false → cond b s true ≡ false
      at_shared true s e h = h
      at_shared false s e h = absurd (false≢true e)

      pub stored_fits : (v : Values) (xs : List ℕ) (a : Option ℕ) (y : ℕ) (c : Cell)
          → ((b : Option ℕ) → a ≡ b → (x : ℕ) → b ≡ Some x → is_among xs x ≡ true)
          → (is_among xs y ≡ true → (let k = abstract_at laid y in IsOfType laid k.scalar v)) → IsCellOf laid y c
          → IsCellOf laid y (stored_cell around v xs a y c)
      stored_fits v xs None y c among typed h = by_test (is_among xs y) refl
        where
          by_test : (b : Bool) → is_among xs y ≡ b
              → IsCellOf laid y (cond b (joining (around.is_shared y) around.reader.held v c) c)
          by_test true is = record {
            value = (let k = abstract_at laid y in joined_of_type laid k.scalar c.value v h.value (typed is));
            pending = cond_within (around.is_shared y) (bit_or c.pending around.reader.held) c.pending
                (within_least c.pending around.reader.held (file_set laid) h.pending held_in) h.pending;
            local = λ is. at_local (around.is_shared y) (bit_or c.pending around.reader.held) c.pending
                (shares y ∙ is) (h.local is);
            shared = h.shared;
          }
          by_test false is = h
      stored_fits v xs (Some x) y c among typed h = by_test (eqb y x) refl
        where
          by_test : (b : Bool) → eqb y x ≡ b
              → IsCellOf laid y (cond b (overwriting (around.is_shared y) around.reader.held v c) c)
          by_test true is =
              let same : y ≡ x = Rattle.std.proofs.lemmas.Bool.eqb-true y x is in
              record {
                value = typed (ap (is_among xs) same ∙ among (Some x) refl x refl);
                pending = cond_within (around.is_shared y) around.reader.held c.pending held_in h.pending;
                local = λ is. at_local (around.is_shared y) around.reader.held c.pending (shares y ∙ is) (h.local is);
                shared = λ is. at_shared (around.is_shared y) c.stored (shares y ∙ is) (h.shared is);
              }
          by_test false is = h

  pub cleared_cell : (a : Option Values) (x : ℕ) (c : Cell)
      → ((v : Values) → a ≡ Some v → (let k = abstract_at laid x in IsOfType laid k.scalar v)) → IsCellOf laid x c
      → IsCellOf laid x (cleared_to a c)
  cleared_cell None x c typed h = h
  cleared_cell (Some v) x c typed h =
      record { value = typed v refl; pending = h.pending; local = h.local; shared = λ is. refl }
