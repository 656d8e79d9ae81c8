-- The rows cover the steps: of calculations, accesses, clearings, mutexes and waiting.
use Rattle.std.specs.Prelude.{◌≡◌, ◌⊎◌, ℕ, Bool, true, false, ◌||◌, cond, eqb, IsTrue, bit_or, List, [], ◌∷◌, Option, Some, None, pos, refl}
use Rattle.std.proofs.Common.{sym, ap, subst, ◌∙◌, inl, inr, ⊎_elim}
use Rattle.std.specs.Int.{bit_at}
use Rattle.std.specs.Option.{option_map}
use Rattle.std.specs.FinMap.{get, insert}
use Rattle.std.proofs.lemmas.Bool.{false≢true, eqb-true, eq-eqb, and_from, or_cases}
use Rattle.interfere_set.specs.strided_dom.Progression.{single, Has}
use Rattle.cell_env.specs.tm_lattice.Tables.{Table, changed_table}
use Rattle.interfere_set.specs.pointer_dom.Pointer.{ScalarValue, number, to}
use Rattle.interfere_set.specs.pointer_dom.PointerSets.{Pointers, IsPointer}
use Rattle.interfere_set.specs.pointer_dom.Values.{Values, IsValues, IsValueIn, no_value}
use Rattle.interfere_set.specs.pointer_dom.laws.ValueLaws.{values_join}
use Rattle.interfere_set.proofs.low.pointer_dom.Meaning.{value_included, in_value_join}
use Rattle.interfere_set.specs.Stores.{Interferences, IsStore, visible, handed}
use Rattle.interfere_set.specs.laws.Joins.{none_is, IsOf, all_upper}
use Rattle.interfere_set.specs.laws.Hearing.{visible_is, handed_is, cond_is, entry_value}
use Rattle.cell_env.specs.tm_lattice.Tables.{IsEntry}
use Rattle.transfer_rows.specs.StateForms.{Temp, Cell, State, IsCellForm, IsStateForm, only_numbers, own_value, value_of, own_of}
use Rattle.transfer_rows.specs.Actions.{Around, Spot, Calculation, skips, gives, loads, loads_any, stores, clears, locks, unlocks, yields, probes, Action}
use Rattle.transfer_rows.specs.Calculations.{calculated}
use Rattle.transfer_rows.specs.Accesses.{leads, is_among, targets_at, single_of}
use Rattle.transfer_rows.specs.Rows.{given, aged, released, dropped, overwriting, joining, is_stored, cleared_to, is_cleared, found_in, loaded, new_copy, after_load_any}
use Rattle.transfer_rows.specs.Rows.{stored_cell, after_store, taken, holds, effect, arrived, after}
use Rattle.transfer_rows.specs.Reports.{left_by, weak_of, sync_of}
use Rattle.transfer_rows.specs.Meanings.{Valuation, put, IsSpotOf}
use Rattle.transfer_rows.specs.Covering.{AreIn, HasCell, IsCopyOf, IsStored, CoversCalculation, IsCopied, CoversLoad, IsOtherThan, CoversStore, CoversClear}
use Rattle.transfer_rows.specs.Covering.{CoversLock, CoversUnlock, CoversFree, CoversYield, CoversHeld, LeadsTo}
use Rattle.transfer_rows.proofs.Leading.{is_led}
use Rattle.transfer_rows.proofs.Steps.{among_here, among_there, among_cons, single_is}
use Rattle.transfer_rows.proofs.Monotone.{value_is}
use Rattle.transfer_rows.proofs.CoverSteps.{member_some, some_same, none_some, own_in_cell, put_here, put_there, InTable, CopyIn, inserted_in, inserted_copy, dropped_in, dropped_copy, live, live_in, live_copy}
use Rattle.transfer_rows.proofs.CoverSteps.{own_changed, own_there, pending_changed, fresh_changed, stored_changed, none_fresh, keeps_changed, keeps_same, bit_joined_left, bit_joined_right, bit_stays, changed_after, changed_before}

-- a spot to which an address leads is a target
pub target_found : (spots : List Spot) (p : Pointers) (spot : Spot) → IsSpotOf spots spot → IsPointer p (to spot.object spot.offset) → is_among (targets_at spots p) spot.cell ≡ true
target_found [] p spot h at = absurd h
target_found (y ∷ ys) p spot h at = ⊎_elim
    (λ here. subst (λ (z : Spot). is_among (targets_at (z ∷ ys) p) spot.cell ≡ true) here
    (subst (λ b. is_among (cond b (spot.cell ∷ targets_at ys p) (targets_at ys p)) spot.cell ≡ true) (sym (is_led p spot.object spot.offset at)) (among_here spot.cell spot.cell (targets_at ys p) refl)))
    (λ there. by_case (leads p y.object y.offset) (target_found ys p spot there at)) h
  where
    by_case : (b : Bool) → is_among (targets_at ys p) spot.cell ≡ true → is_among (cond b (y.cell ∷ targets_at ys p) (targets_at ys p)) spot.cell ≡ true
    by_case true k = among_there spot.cell y.cell (targets_at ys p) k
    by_case false k = k

of_among : (xs : List ℕ) (x : ℕ) → is_among xs x ≡ true → IsOf xs x
of_among [] x h = absurd (false≢true h)
of_among (y ∷ xs) x h = ⊎_elim (λ here. inl here) (λ there. inr (of_among xs x there)) (among_cons y x xs h)

module _ (around : Around) (s : State) (temps : Valuation) (ins : AreIn s temps) where
  in_table : InTable s.temps temps
  in_table t e at = ins.in_value t e at

  copy_of : (t x : ℕ) → CopyIn s.temps t x → IsCopyOf s t x
  copy_of t x c = record { entry = c.0; stands = c.1.0; copy = c.1.1 }

  abbrev pub reached : Table Temp → Table Cell → State
  reached T C = record { temps = live around T; cells = C }

  leads_to : (action : Action) (store : Interferences) (T : Table Temp) (C : Table Cell) → effect around action s store ≡ Some (record { temps = T; cells = C }) → after around action s store ≡ Some (reached T C)
  leads_to action store T C e = ap (option_map (arrived around)) e

  -- ---- temporaries that are given

  module _ (target : ℕ) (v : Values) (w : ScalarValue) (h : IsValueIn v w) where
    abbrev given_temps : Option ℕ → Table Temp
    given_temps copy = insert s.temps target record { value = v; copy = copy }

    given_is : (copy : Option ℕ) → given s target v copy ≡ Some (record { temps = given_temps copy; cells = s.cells })
    given_is copy = ap (λ b. cond b None (Some (record s { temps = given_temps copy }))) (member_some v w h)

    given_in : (copy : Option ℕ) → AreIn (reached (given_temps copy) s.cells) (put temps target w)
    given_in copy = live_in around (given_temps copy) s.cells (put temps target w) (inserted_in s.temps temps target v copy w in_table h)

    old_copy : (t x : ℕ) → IsCopyOf (reached (given_temps None) s.cells) t x → IsCopyOf s t x × (put temps target w t ≡ temps t)
    old_copy t x c = ⊎_elim (λ here. absurd (none_some None x refl here.1)) (λ there. (copy_of t x there.1, put_there temps target t w there.0))
        (inserted_copy s.temps target v None t x (live_copy around (given_temps None) s.cells t x c))

    abbrev given_state : State
    given_state = reached (given_temps None) s.cells

    given_covers : CoversCalculation s given_state temps (put temps target w)
    given_covers =
        let keeps = keeps_same s (live around (given_temps None)) in
        record { inside = given_in None; own = λ x u k agree. k; copies = old_copy; pending = keeps.pending; fresh = keeps.fresh; stored = keeps.stored }

  pub give_covers : (target : ℕ) (calculation : Calculation) (w : ScalarValue) (store : Interferences) → IsValueIn (calculated calculation s) w
      → LeadsTo (after around (gives target calculation) s store) (λ s'. CoversCalculation s s' temps (put temps target w))
  unfolding effect
  give_covers target calculation w store h = record {
    state = given_state target (calculated calculation s) w h;
    is = leads_to (gives target calculation) store _ _ (given_is target (calculated calculation s) w h None);
    covers = given_covers target (calculated calculation s) w h;
  }

  pub skip_covers : (store : Interferences) → LeadsTo (after around skips s store) (λ s'. CoversCalculation s s' temps temps)
  unfolding effect
  skip_covers store =
      let keeps = keeps_same s (live around s.temps) in
      record {
        state = reached s.temps s.cells;
        is = refl;
        covers = record {
          inside = live_in around s.temps s.cells temps in_table;
          own = λ x v k agree. k;
          copies = λ t x c. (copy_of t x (live_copy around s.temps s.cells t x c), refl);
          pending = keeps.pending;
          fresh = keeps.fresh;
          stored = keeps.stored;
        };
      }

  -- ---- loads of volatile objects

  any_is : (target : ℕ) (xs : List ℕ) (x : ℕ) (range : Values) → is_among xs x ≡ true → after_load_any around s target xs range ≡ given s target range None
  any_is target [] x range h = absurd (false≢true h)
  any_is target (y ∷ xs) x range h = refl

  pub load_any_covers : (spots : List Spot) (target address x : ℕ) (range : Values) (w : ScalarValue) (store : Interferences) → is_among (targets_at spots (value_of s address).pointers) x ≡ true → IsValueIn range w
      → LeadsTo (after around (loads_any spots target address range) s store) (λ s'. CoversCalculation s s' temps (put temps target w))
  unfolding effect
  load_any_covers spots target address x range w store among h = record {
    state = given_state target range w h;
    is = leads_to (loads_any spots target address range) store _ _ (any_is target (targets_at spots (value_of s address).pointers) x range among ∙ given_is target range w h None);
    covers = given_covers target range w h;
  }

  -- ---- a probe that finds the mutex held

  one_in : (n : ℕ) → IsValueIn (only_numbers (single (pos n))) (number (pos n))
  unfolding Has
  one_in n = refl

  pub held_covers : (m target : ℕ) (store : Interferences) → LeadsTo (after around (probes m target true) s store) (λ s'. CoversHeld s s' temps (put temps target (number (pos 1))))
  unfolding effect
  held_covers m target store =
      let v = only_numbers (single (pos 1)) in
      record {
        state = given_state target v (number (pos 1)) (one_in 1);
        is = leads_to (probes m target true) store _ _ (given_is target v (number (pos 1)) (one_in 1) None);
        covers = record { inside = given_in target v (number (pos 1)) (one_in 1) None; keeps = keeps_same s _; copies = old_copy target v (number (pos 1)) (one_in 1) };
      }

  module _ (s-is : IsStateForm s) where
    cell_is : (x : ℕ) (c : Cell) → get s.cells x ≡ Some c → IsValues c.value
    cell_is x c at = entry_value IsCellForm (λ c. ⊥) s.cells x c s-is.cells at

    module _ (store : Interferences) (store-is : IsStore store) where
      -- ---- loads

      heard_is : (x : ℕ) (fresh : Bool) → IsValues (cond (around.is_shared x) (visible around.reader fresh x store) no_value)
      heard_is x fresh = cond_is (around.is_shared x) (visible around.reader fresh x store) no_value (visible_is around.reader x fresh store store-is.weak) none_is

      found_is : (x : ℕ) (a : Option Cell) → IsEntry IsCellForm (λ c. ⊥) a → IsValues (found_in around store x a)
      found_is x None h = none_is
      found_is x (Some c) h = values_join.value c.value (cond (around.is_shared x) (visible around.reader c.fresh x store) no_value) h.0 (heard_is x c.fresh)

      module _ (xs : List ℕ) (x : ℕ) (among : is_among xs x ≡ true) (c : Cell) (at : get s.cells x ≡ Some c) (w : ScalarValue) where
        in_loaded : IsValueIn (found_in around store x (Some c)) w → IsValueIn (loaded around s store xs) w
        in_loaded h = value_included (found_in around store x (get s.cells x)) (loaded around s store xs) w
            (all_upper (λ y. found_in around store y (get s.cells y)) xs x (λ y k. found_is y (get s.cells y) (s-is.cells y)) (of_among xs x among)) (subst (λ a. IsValueIn (found_in around store x a) w) (sym at) h)

        pub own_loaded : IsValueIn (own_of s x) w → IsValueIn (loaded around s store xs) w
        own_loaded h = in_loaded (in_value_join c.value (cond (around.is_shared x) (visible around.reader c.fresh x store) no_value) w (cell_is x c at) (heard_is x c.fresh) (inl (own_in_cell s x c w at h)))

        pub seen_loaded : around.is_shared x ≡ true → IsValueIn (visible around.reader c.fresh x store) w → IsValueIn (loaded around s store xs) w
        seen_loaded shared h = in_loaded (in_value_join c.value (cond (around.is_shared x) (visible around.reader c.fresh x store) no_value) w (cell_is x c at) (heard_is x c.fresh)
            (inr (subst (λ b. IsValueIn (cond b (visible around.reader c.fresh x store) no_value) w) (sym shared) h)))

      -- which copy a load makes
      new_copy_is : (a : Option ℕ) (y : ℕ) → new_copy around s a ≡ Some y → (a ≡ Some y) × ((around.is_shared y || is_stored (get s.cells y)) ≡ true)
      new_copy_is None y e = absurd (none_some None y refl e)
      new_copy_is (Some z) y e = by_case (around.is_shared z || is_stored (get s.cells z)) refl e
        where
          by_case : (b : Bool) → (around.is_shared z || is_stored (get s.cells z)) ≡ b → cond b (Some z) None ≡ Some y → (Some z ≡ Some y) × ((around.is_shared y || is_stored (get s.cells y)) ≡ true)
          by_case true is k = (k, subst (λ n. (around.is_shared n || is_stored (get s.cells n)) ≡ true) (some_same (Some z) z y refl k) is)
          by_case false is k = absurd (none_some None y refl k)

      stored_cell_is : (x : ℕ) (c : Cell) → get s.cells x ≡ Some c → is_stored (get s.cells x) ≡ true → IsStored s x
      stored_cell_is x c at h = record { entry = c; stands = at; stored = subst (λ a. is_stored a ≡ true) at h }

      pub load_covers : (spots : List Spot) (target address x : ℕ) (w : ScalarValue) → is_among (targets_at spots (value_of s address).pointers) x ≡ true → (cell : HasCell s x)
          → IsValueIn (own_of s x) w ⊎ ((around.is_shared x ≡ true) × IsValueIn (visible around.reader cell.entry.fresh x store) w)
          → LeadsTo (after around (loads spots target address) s store) (λ s'. CoversLoad around s s' temps target x w)
      unfolding effect
      load_covers spots target address x w among cell found = record {
        state = reached (given_temps target v w in_v copy) s.cells;
        is = leads_to (loads spots target address) store _ _ (given_is target v w in_v copy);
        covers = record { inside = given_in target v w in_v copy; keeps = keeps_same s _; copies = copies };
      }
        where
          xs : List ℕ
          xs = targets_at spots (value_of s address).pointers

          v : Values
          v = loaded around s store (targets_at spots (value_of s address).pointers)

          copy : Option ℕ
          copy = new_copy around s (single_of around.is_smashed (targets_at spots (value_of s address).pointers))

          in_v : IsValueIn (loaded around s store (targets_at spots (value_of s address).pointers)) w
          in_v = ⊎_elim (λ own. own_loaded (targets_at spots (value_of s address).pointers) x among cell.entry cell.stands w own)
              (λ seen. seen_loaded (targets_at spots (value_of s address).pointers) x among cell.entry cell.stands w seen.0 seen.1) found

          copied : (y : ℕ) → new_copy around s (single_of around.is_smashed (targets_at spots (value_of s address).pointers)) ≡ Some y → IsCopied around s x y
          copied y e =
              let n = new_copy_is (single_of around.is_smashed (targets_at spots (value_of s address).pointers)) y e in
              let one = single_is around (targets_at spots (value_of s address).pointers) y n.0 in
              let same : x ≡ y = one.1 x among in
              record {
                is = sym same;
                whole = one.0;
                known = ⊎_elim (λ shared. inl shared) (λ stored. inr (stored_cell_is y cell.entry (subst (λ k. get s.cells k ≡ Some cell.entry) same cell.stands) stored)) (or_cases (around.is_shared y) (is_stored (get s.cells y)) n.1);
              }

          copies : (u y : ℕ) → IsCopyOf (reached (given_temps target (loaded around s store (targets_at spots (value_of s address).pointers)) w in_v (new_copy around s (single_of around.is_smashed (targets_at spots (value_of s address).pointers)))) s.cells) u y
              → (IsCopyOf s u y × (put temps target w u ≡ temps u)) ⊎ ((put temps target w u ≡ w) × IsCopied around s x y)
          copies u y c = ⊎_elim (λ here. inr (put_here temps target u w here.0, copied y here.1)) (λ there. inl (copy_of u y there.1, put_there temps target u w there.0))
              (inserted_copy s.temps target v (new_copy around s (single_of around.is_smashed (targets_at spots (value_of s address).pointers))) u y
              (live_copy around (given_temps target v w in_v (new_copy around s (single_of around.is_smashed (targets_at spots (value_of s address).pointers)))) s.cells u y c))

      -- ---- what the others left under a mutex

      hand_is : (m x : ℕ) → IsValues (cond (around.is_shared x) (handed around.reader.task m x store) no_value)
      hand_is m x = cond_is (around.is_shared x) (handed around.reader.task m x store) no_value (handed_is around.reader.task m x store store-is.sync) none_is

      taken_keeps : (m x : ℕ) (c : Cell) (w : ScalarValue) → get s.cells x ≡ Some c → IsValueIn c.value w → IsValueIn (taken around store m x c).value w
      taken_keeps m x c w at h = in_value_join c.value (cond (around.is_shared x) (handed around.reader.task m x store) no_value) w (cell_is x c at) (hand_is m x) (inl h)

      taken_hands : (m x : ℕ) (c : Cell) (w : ScalarValue) → get s.cells x ≡ Some c → around.is_shared x ≡ true → IsValueIn (handed around.reader.task m x store) w → IsValueIn (taken around store m x c).value w
      taken_hands m x c w at shared h = in_value_join c.value (cond (around.is_shared x) (handed around.reader.task m x store) no_value) w (cell_is x c at) (hand_is m x)
          (inr (subst (λ b. IsValueIn (cond b (handed around.reader.task m x store) no_value) w) (sym shared) h))

      no_copy : (C : Table Cell) (t x : ℕ) → IsCopyOf (reached (dropped (λ y. true) s.temps) C) t x → ⊥
      no_copy C t x c = false≢true (sym (dropped_copy (λ y. true) s.temps t x (live_copy around (dropped (λ y. true) s.temps) C t x c)).1)

      pub lock_covers : (m : ℕ) → holds around m ≡ false → LeadsTo (after around (locks m) s store) (λ s'. CoversLock around s s' store temps m)
      unfolding effect
      lock_covers m free = record {
        state = reached (dropped (λ y. true) s.temps) (changed_table f s.cells);
        is = leads_to (locks m) store (dropped (λ y. true) s.temps) (changed_table f s.cells) (ap (λ b. cond b None (Some (record { temps = dropped (λ y. true) s.temps; cells = changed_table f s.cells }))) free);
        covers = record {
          inside = live_in around (dropped (λ y. true) s.temps) (changed_table f s.cells) temps (dropped_in (λ y. true) s.temps temps in_table);
          keeps = keeps_changed s f (live around (dropped (λ y. true) s.temps)) (λ x c w at h. taken_keeps m x c w at h) (λ x c n h. h) (λ x c h. absurd (false≢true h)) (λ x c h. h);
          handed = λ x w shared cell h. own_there s f x cell.entry w cell.stands (taken_hands m x cell.entry w cell.stands shared h);
          fresh = none_fresh s f (live around (dropped (λ y. true) s.temps)) (λ x c. refl);
          copies = no_copy (changed_table f s.cells);
        };
      }
        where
          f : ℕ → Cell → Cell
          f = λ x c. aged (taken around store m x c)

      pub free_covers : (m target : ℕ) → holds around m ≡ false → LeadsTo (after around (probes m target false) s store) (λ s'. CoversFree around s s' store (put temps target (number (pos 0))) m)
      unfolding effect
      free_covers m target free = record {
        state = reached T (changed_table (taken around store m) s.cells);
        is = leads_to (probes m target false) store T (changed_table (taken around store m) s.cells) (ap (λ b. cond b None (Some (record { temps = T; cells = changed_table (taken around store m) s.cells }))) free);
        covers = record {
          inside = live_in around T (changed_table (taken around store m) s.cells) (put temps target (number (pos 0)))
              (inserted_in (dropped (λ y. true) s.temps) temps target zero_value None (number (pos 0)) (dropped_in (λ y. true) s.temps temps in_table) (one_in 0));
          keeps = keeps_changed s (taken around store m) (live around T) (λ x c w at h. taken_keeps m x c w at h) (λ x c n h. h) (λ x c h. h) (λ x c h. h);
          handed = λ x w shared cell h. own_there s (taken around store m) x cell.entry w cell.stands (taken_hands m x cell.entry w cell.stands shared h);
          copies = λ t x c. ⊎_elim (λ here. none_some None x refl here.1) (λ there. false≢true (sym (dropped_copy (λ y. true) s.temps t x there.1).1))
              (inserted_copy (dropped (λ y. true) s.temps) target zero_value None t x (live_copy around T (changed_table (taken around store m) s.cells) t x c));
        };
      }
        where
          zero_value : Values
          zero_value = only_numbers (single (pos 0))

          T : Table Temp
          T = insert (dropped (λ y. true) s.temps) target record { value = only_numbers (single (pos 0)); copy = None }

    -- ---- stores

    module _ (v : Values) (v-is : IsValues v) (xs : List ℕ) (x : ℕ) (among : is_among xs x ≡ true) (cell : HasCell s x) where
      abbrev single_target : Option ℕ
      single_target = single_of around.is_smashed xs

      abbrev f : ℕ → Cell → Cell
      f = stored_cell around v xs single_target

      abbrev T : Table Temp
      T = dropped (is_among xs) s.temps

      abbrev stored_state : State
      stored_state = reached T (changed_table f s.cells)

      store_is : (ys : List ℕ) → is_among ys x ≡ true → after_store around s v ys ≡ Some (record { temps = dropped (is_among ys) s.temps; cells = changed_table (stored_cell around v ys (single_of around.is_smashed ys)) s.cells })
      store_is [] h = absurd (false≢true h)
      store_is (y ∷ ys) h = refl

      -- the one target, if there is one
      IsOne : Option ℕ → Type 0
      IsOne a = (z : ℕ) → a ≡ Some z → (around.is_smashed z ≡ false) × ((w : ℕ) → is_among xs w ≡ true → w ≡ z) × (is_among xs z ≡ true)

      one : (z : ℕ) → single_target ≡ Some z → (around.is_smashed z ≡ false) × ((w : ℕ) → is_among xs w ≡ true → w ≡ z) × (is_among xs z ≡ true)
      one z e = single_is around xs z e

      abbrev kept : ℕ → Cell → Cell → Type 0
      kept y c d = (d.value ≡ c.value) × (d.pending ≡ c.pending) × (d.fresh ≡ c.fresh) × (d.stored ≡ c.stored)

      abbrev joined : ℕ → Cell → Cell → Type 0
      joined y c d = (is_among xs y ≡ true) × (d ≡ joining (around.is_shared y) around.reader.held v c)

      -- what becomes of a cell other than the one that is written alone: it stays, or is joined
      other : (a : Option ℕ) → ((z : ℕ) → a ≡ Some z → (around.is_smashed z ≡ false) × ((w : ℕ) → is_among xs w ≡ true → w ≡ z) × (is_among xs z ≡ true)) → (y : ℕ) (c : Cell) → IsOtherThan around x y
          → (stored_cell around v xs a y c ≡ c) ⊎ ((is_among xs y ≡ true) × (stored_cell around v xs a y c ≡ joining (around.is_shared y) around.reader.held v c))
      other None is y c differs = by_test (is_among xs y) refl
        where
          by_test : (b : Bool) → is_among xs y ≡ b → (cond b (joining (around.is_shared y) around.reader.held v c) c ≡ c) ⊎ ((is_among xs y ≡ true) × (cond b (joining (around.is_shared y) around.reader.held v c) c ≡ joining (around.is_shared y) around.reader.held v c))
          by_test true e = inr (e, refl)
          by_test false e = inl refl
      other (Some z) is y c differs = by_test (eqb y z) refl
        where
          by_test : (b : Bool) → eqb y z ≡ b → (cond b (overwriting (around.is_shared y) around.reader.held v c) c ≡ c) ⊎ ((is_among xs y ≡ true) × (cond b (overwriting (around.is_shared y) around.reader.held v c) c ≡ joining (around.is_shared y) around.reader.held v c))
          by_test true e =
              let o = is z refl in
              let here : x ≡ z = o.1 x among in
              let smashed : around.is_smashed x ≡ true = differs (eqb-true y z e ∙ sym here) in
              absurd (false≢true (sym o.0 ∙ ap around.is_smashed (sym here) ∙ smashed))
          by_test false e = inl refl

      abbrev Before : ℕ → Cell → Type 0
      Before y c = (f y c ≡ c) ⊎ ((is_among xs y ≡ true) × (f y c ≡ joining (around.is_shared y) around.reader.held v c))

      kind : (y : ℕ) (c : Cell) → IsOtherThan around x y → Before y c
      kind y c differs = other single_target one y c differs

      -- what becomes of the cell that is written
      here : (a : Option ℕ) → ((z : ℕ) → a ≡ Some z → (around.is_smashed z ≡ false) × ((w : ℕ) → is_among xs w ≡ true → w ≡ z) × (is_among xs z ≡ true)) → (c : Cell)
          → (stored_cell around v xs a x c ≡ overwriting (around.is_shared x) around.reader.held v c) ⊎ (stored_cell around v xs a x c ≡ joining (around.is_shared x) around.reader.held v c)
      here None is c = inr (ap (λ b. cond b (joining (around.is_shared x) around.reader.held v c) c) among)
      here (Some z) is c = inl (ap (λ b. cond b (overwriting (around.is_shared x) around.reader.held v c) c) (eq-eqb x z ((is z refl).1 x among)))

      own_here : (w : ScalarValue) → IsValueIn v w → IsValueIn (own_value (get (changed_table f s.cells) x)) w
      own_here w h = own_there s f x cell.entry w cell.stands (⊎_elim
          (λ e. subst (λ (d : Cell). IsValueIn d.value w) (sym e) h)
          (λ e. subst (λ (d : Cell). IsValueIn d.value w) (sym e) (in_value_join cell.entry.value v w (cell_is x cell.entry cell.stands) v-is (inr h)))
          (here single_target one cell.entry))

      own_else : (y : ℕ) (w : ScalarValue) → IsOtherThan around x y → IsValueIn (own_of s y) w → IsValueIn (own_value (get (changed_table f s.cells) y)) w
      own_else y w differs h = own_changed s f y w (λ c at k. ⊎_elim
          (λ e. subst (λ (d : Cell). IsValueIn d.value w) (sym e) k)
          (λ e. subst (λ (d : Cell). IsValueIn d.value w) (sym e.1) (in_value_join c.value v w (cell_is y c at) v-is (inl k)))
          (kind y c differs)) h

      pending_bits : (b : Bool) (m p q : ℕ) → b ≡ true → bit_at q m ≡ 1 → bit_at (cond b (bit_or p q) p) m ≡ 1
      pending_bits true m p q e h = bit_joined_right p q m h
      pending_bits false m p q e h = absurd (false≢true e)

      pending_held : (b : Bool) (m p q : ℕ) → b ≡ true → bit_at q m ≡ 1 → bit_at (cond b q p) m ≡ 1
      pending_held true m p q e h = h
      pending_held false m p q e h = absurd (false≢true e)

      pending_old : (b : Bool) (m p q : ℕ) → bit_at p m ≡ 1 → bit_at (cond b (bit_or p q) p) m ≡ 1
      pending_old true m p q h = bit_joined_left p q m h
      pending_old false m p q h = h

      pub store_covered : (w : ScalarValue) (entry : Values) → IsValueIn v w → (around.is_shared x ≡ true → IsValueIn entry w) → CoversStore around s stored_state temps x w entry
      store_covered w entry h added = record {
        inside = live_in around T (changed_table f s.cells) temps (dropped_in (is_among xs) s.temps temps in_table);
        own = own_here w h;
        own_other = own_else;
        pending = λ m shared held. record {
          entry = f x cell.entry;
          stands = changed_after f s.cells x cell.entry cell.stands;
          pending = ⊎_elim
              (λ e. subst (λ (d : Cell). bit_at d.pending m ≡ 1) (sym e) (pending_held (around.is_shared x) m cell.entry.pending around.reader.held shared held))
              (λ e. subst (λ (d : Cell). bit_at d.pending m ≡ 1) (sym e) (pending_bits (around.is_shared x) m cell.entry.pending around.reader.held shared held)) (here single_target one cell.entry);
        };
        pending_other = λ y m differs p. pending_changed s f (live around T) y m (λ c k. ⊎_elim
            (λ e. subst (λ (d : Cell). bit_at d.pending m ≡ 1) (sym e) k)
            (λ e. subst (λ (d : Cell). bit_at d.pending m ≡ 1) (sym e.1) (pending_old (around.is_shared y) m c.pending around.reader.held k)) (kind y c differs)) p;
        fresh_other = λ y differs p. fresh_changed s f (live around T) y (λ c k. ⊎_elim
            (λ e. subst (λ (d : Cell). IsTrue d.fresh) e k)
            (λ e. subst (λ (d : Cell). IsTrue d.fresh) e.1 k) (kind y c differs)) p;
        stored_other = λ y differs p. stored_changed s f (live around T) y (λ c k. ⊎_elim
            (λ e. subst (λ (d : Cell). IsTrue d.stored) e k)
            (λ e. subst (λ (d : Cell). IsTrue d.stored) e.1 k) (kind y c differs)) p;
        copies = λ t y c.
            (let k = dropped_copy (is_among xs) s.temps t y (live_copy around T (changed_table f s.cells) t y c) in
            (copy_of t y k.0, λ same. false≢true (sym k.1 ∙ ap (is_among xs) same ∙ among)));
        added = added;
      }

      pub store_leads : after_store around s v xs ≡ Some (record { temps = T; cells = changed_table f s.cells })
      store_leads = store_is xs among

    pub store_covers : (spots : List Spot) (address source x : ℕ) (w : ScalarValue) (store : Interferences) → is_among (targets_at spots (value_of s address).pointers) x ≡ true → HasCell s x → IsValueIn (value_of s source) w
        → LeadsTo (after around (stores spots address source) s store) (λ s'. CoversStore around s s' temps x w (weak_of around (stores spots address source) s x))
    unfolding effect weak_of
    store_covers spots address source x w store among cell h =
        let v = value_of s source in
        let xs = targets_at spots (value_of s address).pointers in
        let v-is = value_is s source s-is in
        record {
          state = stored_state v v-is xs x among cell;
          is = leads_to (stores spots address source) store _ _ (store_leads v v-is xs x among cell);
          covers = store_covered v v-is xs x among cell w (weak_of around (stores spots address source) s x) h
              (λ shared. subst (λ b. IsValueIn (cond b (value_of s source) no_value) w) (sym (and_from (around.is_shared x) (is_among (targets_at spots (value_of s address).pointers) x) shared among)) h);
        }

  -- ---- clearings

  cleared_pending : (a : Option Values) (c : Cell) (m : ℕ) → bit_at c.pending m ≡ 1 → bit_at (cleared_to a c).pending m ≡ 1
  cleared_pending None c m h = h
  cleared_pending (Some v) c m h = h

  cleared_fresh : (a : Option Values) (c : Cell) → IsTrue (cleared_to a c).fresh → IsTrue c.fresh
  cleared_fresh None c h = h
  cleared_fresh (Some v) c h = h

  cleared_stored : (a : Option Values) (c : Cell) → IsTrue (cleared_to a c).stored → IsTrue c.stored × (a ≡ None)
  cleared_stored None c h = (h, refl)
  cleared_stored (Some v) c h = absurd (false≢true h)

  cleared_none : (a : Option Values) → is_cleared a ≡ false → a ≡ None
  cleared_none None h = refl
  cleared_none (Some v) h = absurd (false≢true (sym h))

  pub clear_covers : (cleared : ℕ → Option Values) (store : Interferences) → LeadsTo (after around (clears cleared) s store) (λ s'. CoversClear around s s' temps cleared)
  unfolding effect
  clear_covers cleared store = record {
    state = reached T (changed_table f s.cells);
    is = refl;
    covers = record {
      inside = live_in around T (changed_table f s.cells) temps (dropped_in test s.temps temps in_table);
      own = λ x v w e cell h. own_there s f x cell.entry w cell.stands (subst (λ a. IsValueIn (cleared_to a cell.entry).value w) (sym e) h);
      own_other = λ x w e h. own_changed s f x w (λ c at k. subst (λ a. IsValueIn (cleared_to a c).value w) (sym e) k) h;
      pending = λ x m p. pending_changed s f (live around T) x m (λ c k. cleared_pending (cleared x) c m k) p;
      fresh = λ x p. fresh_changed s f (live around T) x (λ c k. cleared_fresh (cleared x) c k) p;
      stored = λ x p. (stored_changed s f (live around T) x (λ c k. (cleared_stored (cleared x) c k).0) p, was_stored x p);
      copies = λ t x c. (let k = dropped_copy test s.temps t x (live_copy around T (changed_table f s.cells) t x c) in (copy_of t x k.0, cleared_none (cleared x) k.1));
    };
  }
    where
      test : ℕ → Bool
      test = λ x. is_cleared (cleared x)

      f : ℕ → Cell → Cell
      f = λ x. cleared_to (cleared x)

      T : Table Temp
      T = dropped (λ x. is_cleared (cleared x)) s.temps

      was_stored : (x : ℕ) → IsStored (reached (dropped (λ y. is_cleared (cleared y)) s.temps) (changed_table (λ y. cleared_to (cleared y)) s.cells)) x → cleared x ≡ None
      was_stored x p =
          let b = changed_before (λ y. cleared_to (cleared y)) s.cells x p.entry p.stands in
          (cleared_stored (cleared x) b.0 (subst (λ (d : Cell). IsTrue d.stored) (sym b.1.1) p.stored)).1

  -- ---- unlocking and waiting

  pub unlock_covers : (m : ℕ) (store : Interferences) → holds around m ≡ true → LeadsTo (after around (unlocks m) s store) (λ s'. CoversUnlock around s s' temps m (λ x. sync_of around (unlocks m) s m x))
  unfolding effect sync_of
  unlock_covers m store held = record {
    state = reached s.temps (changed_table f s.cells);
    is = leads_to (unlocks m) store s.temps (changed_table f s.cells) (ap (λ b. cond b (Some (record { temps = s.temps; cells = changed_table f s.cells })) None) held);
    covers = record {
      inside = live_in around s.temps (changed_table f s.cells) temps in_table;
      own = λ x w h. own_changed s f x w (λ c at k. k) h;
      pending = λ x n differ m_small n_small p. pending_changed s f (live around s.temps) x n (λ c k. bit_stays c.pending m n differ m_small n_small k) p;
      fresh = λ x p. fresh_changed s f (live around s.temps) x (λ c k. k) p;
      stored = λ x p. stored_changed s f (live around s.temps) x (λ c k. k) p;
      copies = λ t x c. copy_of t x (live_copy around s.temps (changed_table f s.cells) t x c);
      added = λ x w shared p h.
          subst (λ b. IsValueIn (cond b (left_by m (get s.cells x)) no_value) w) (sym (and_from _ _ shared (and_from _ _ (eq-eqb m m refl) held)))
          (subst (λ a. IsValueIn (left_by m a) w) (sym p.stands) (subst (λ b. IsValueIn (cond b p.entry.value no_value) w) (sym (eq-eqb (bit_at p.entry.pending m) 1 p.pending)) (own_in_cell s x p.entry w p.stands h)));
    };
  }
    where
      f : ℕ → Cell → Cell
      f = λ x c. released m c

  pub yield_covers : (store : Interferences) → LeadsTo (after around yields s store) (λ s'. CoversYield s s' temps)
  unfolding effect
  yield_covers store = record {
    state = reached s.temps (changed_table (λ x c. aged c) s.cells);
    is = refl;
    covers = record {
      inside = live_in around s.temps (changed_table (λ x c. aged c) s.cells) temps in_table;
      keeps = keeps_changed s (λ x c. aged c) (live around s.temps) (λ x c w at h. h) (λ x c n h. h) (λ x c h. absurd (false≢true h)) (λ x c h. h);
      fresh = none_fresh s (λ x c. aged c) (live around s.temps) (λ x c. refl);
      copies = λ t x c. copy_of t x (live_copy around s.temps (changed_table (λ x c. aged c) s.cells) t x c);
    };
  }
