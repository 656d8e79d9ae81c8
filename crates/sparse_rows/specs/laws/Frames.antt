-- An operation changes no cell that it leaves, in none of its attributes, and makes of others that it does not write
-- what it makes of each by itself.
use Rattle.std.specs.Prelude.{◌≡◌, ℕ, Bool, true, false, ◌&&◌, ◌||◌, not, cond, eqb, List, [], ◌∷◌, Option, Some, None}
use Rattle.std.specs.Prelude.{refl, pos}
use Rattle.std.proofs.Common.{sym, ap, subst, ◌∙◌, inl, inr, IfSome, eqb-true}
use Rattle.std.specs.FinMap.{get, insert}
use Rattle.std.specs.Option.{option_map}
use Rattle.std.specs.List.{list_all}
use Rattle.std.proofs.lemmas.Bool.{true≢false, cases_eq}
use Rattle.std.proofs.lemmas.Option.{none-some}
use Rattle.transfer_rows.specs.cell_env.tm_lattice.laws.TableLaws.{get-insert_here, get-insert_there}
use Rattle.transfer_rows.specs.cell_env.tm_lattice.Tables.{Table, changed_table}
use Rattle.transfer_rows.specs.cell_env.tm_lattice.laws.SelectedLaws.{changed_at, get-changed_table}
use Rattle.transfer_rows.specs.interfere_set.pointer_dom.Values.{Values}
use Rattle.transfer_rows.specs.interfere_set.Stores.{Interferences}
use Rattle.transfer_rows.specs.StateForms.{Cell, State, Temp, is_no_value, only_numbers, value_of}
use Rattle.transfer_rows.specs.interfere_set.strided_dom.Progression.{single}
use Rattle.transfer_rows.specs.Accesses.{is_among, targets_at, single_of}
use Rattle.transfer_rows.specs.Actions.{Around, Action, Filter, Side, temporary, fixed, usable, numbers_compare}
use Rattle.transfer_rows.specs.Actions.{pointers_compare, skips, gives, refines, loads, loads_any, stores, clears}
use Rattle.transfer_rows.specs.Actions.{locks, unlocks, yields, probes}
use Rattle.transfer_rows.specs.Calculations.{calculated, usable_values, side_value, left_numbers, right_numbers}
use Rattle.transfer_rows.specs.Calculations.{left_addresses, right_addresses}
use Rattle.transfer_rows.specs.Meanings.{IsFiltered, IsAt}
use Rattle.transfer_rows.specs.Rows.{given, aged, released, after_unlock, cleared_to}
use Rattle.transfer_rows.specs.Rows.{met_where, refined, refined_from, side_refined, then_refined}
use Rattle.transfer_rows.specs.Rows.{after_filter, loaded, new_copy, after_load_any}
use Rattle.transfer_rows.specs.Rows.{stored_cell, after_store, taken, after_lock, after_free}
use Rattle.transfer_rows.specs.Rows.{is_contradicted, holds, effect, arrived, after}
use Rattle.sparse_rows.specs.Touched.{Leaves, IsNoCopy, IsKeptBy, IfSame, Passes}
use Rattle.sparse_rows.specs.Carried.{carried_by}

-- a table changed at each key has at a key what it had, where the change leaves that
kept_at : (f : ℕ → Cell → Cell) (x : ℕ) (a : Option Cell) → IsKeptBy (f x) a → changed_at f x a ≡ a
kept_at f x None h = refl
kept_at f x (Some c) h = ap Some h

changed_same : (f : ℕ → Cell → Cell) (t : Table Cell) (x : ℕ) → IsKeptBy (f x) (get t x)
    → get (changed_table f t) x ≡ get t x
changed_same f t x h = get-changed_table f t x ∙ kept_at f x (get t x) h

-- and where the change is looked at, what the change makes of it
changed_is : (f : ℕ → Cell → Cell) (x : ℕ) (a : Option Cell) → changed_at f x a ≡ option_map (f x) a
changed_is f x None = refl
changed_is f x (Some c) = refl

changed_map : (f : ℕ → Cell → Cell) (t : Table Cell) (x : ℕ)
    → get (changed_table f t) x ≡ option_map (f x) (get t x)
changed_map f t x = get-changed_table f t x ∙ changed_is f x (get t x)

same_map : (a : Option Cell) → a ≡ option_map (λ (c : Cell). c) a
same_map None = refl
same_map (Some c) = refl

always_kept : (f : Cell → Cell) (a : Option Cell) → ((c : Cell) → f c ≡ c) → IsKeptBy f a
always_kept f None h = tt
always_kept f (Some c) h = h c

by_cond : (b : Bool) (at : Option Cell) (x : ℕ) (y z : Option State) → IfSame at x y → IfSame at x z
    → IfSame at x (cond b y z)
by_cond true at x y z one other = one
by_cond false at x y z one other = other

given_same : (s : State) (target : ℕ) (v : Values) (copy : Option ℕ) (x : ℕ)
    → IfSame (get s.cells x) x (given s target v copy)
given_same s target v copy x = by_cond (is_no_value v) (get s.cells x) x None _ tt refl

-- ## Tests

eqb_differs : (x y : ℕ) → (Some y ≡ Some x → ⊥) → (b : Bool) → eqb x y ≡ b → b ≡ false
eqb_differs x y differ true is = absurd (differ (ap Some (sym (eqb-true x y is))))
eqb_differs x y differ false is = refl

cond_other : (b : Bool) (p q : Cell) → b ≡ false → cond b p q ≡ q
cond_other true p q is = absurd (true≢false is)
cond_other false p q is = refl

met_kept : (copy : Option ℕ) (v : Values) (x : ℕ) → (copy ≡ Some x → ⊥) → (c : Cell) → met_where copy v x c ≡ c
met_kept None v x differ c = refl
met_kept (Some y) v x differ c = cond_other (eqb x y) _ c (eqb_differs x y differ (eqb x y) refl)

module _ (x : ℕ) where
  -- the cell is the same, and copies of it are made of no temporary
  pub record IsKept (s t : State) : Type 0 where
    pub same : get t.cells x ≡ get s.cells x
    pub copies : (u : ℕ) → IsNoCopy (get s.temps u) x → IsNoCopy (get t.temps u) x

  insert_copies : (temps : Table Temp) (t : ℕ) (e : Temp) → (e.copy ≡ Some x → ⊥) → (u : ℕ)
      → IsNoCopy (get temps u) x → IsNoCopy (get (insert temps t e) u) x
  insert_copies temps t e differ u free = elim (cases_eq u t) [
    | inl here ↦ subst (λ a. IsNoCopy a x) (sym (get-insert_here temps t e u here)) differ
    | inr there ↦ subst (λ a. IsNoCopy a x) (sym (get-insert_there temps t e u there)) free
  ]

  refined_kept : (s : State) (t : ℕ) (v : Values) (copy : Option ℕ) → (copy ≡ Some x → ⊥)
      → IsKept s (refined s t v copy)
  refined_kept s t v copy differ = record {
    same = changed_same (met_where copy v) s.cells x
        (always_kept (met_where copy v x) (get s.cells x) (met_kept copy v x differ));
    copies = insert_copies s.temps t (record { value = v; copy = copy }) differ;
  }

  kept_cond : (b : Bool) (s : State) (y z : Option State) → IfSome y (IsKept s) → IfSome z (IsKept s)
      → IfSome (cond b y z) (IsKept s)
  kept_cond true s y z one other = one
  kept_cond false s y z one other = other

  itself_kept : (s : State) → IsKept s s
  itself_kept s = record { same = refl; copies = λ u free. free }

  module _ (around : Around) where
    refined_from_kept : (s : State) (t : ℕ) (v : Values) (before : Option Temp) → IsNoCopy before x
        → IfSome (refined_from around s t v before) (IsKept s)
    refined_from_kept s t v None free = tt
    refined_from_kept s t v (Some e) free = kept_cond
        (is_no_value v || is_contradicted around (refined s t v e.copy) e.copy) s None
        (Some (refined s t v e.copy)) tt (refined_kept s t v e.copy free)

    side_kept : (side : Side) (v : Values) (s : State) → ((t : ℕ) → IsAt side t → IsNoCopy (get s.temps t) x)
        → IfSome (side_refined around side v s) (IsKept s)
    side_kept (temporary t) v s free = refined_from_kept s t v (get s.temps t) (free t refl)
    side_kept (fixed value) v s free = kept_cond (is_no_value v) s None (Some s) tt (itself_kept s)

    after_both : (s t : State) → IsKept s t → (y : Option State) → IfSome y (IsKept t) → IfSome y (IsKept s)
    after_both s t first None second = tt
    after_both s t first (Some u) second = record {
      same = second.same ∙ first.same;
      copies = λ n free. second.copies n (first.copies n free);
    }

    then_kept : (side : Side) (v : Values) (s : State) (y : Option State)
        → ((t : ℕ) → IsAt side t → IsNoCopy (get s.temps t) x) → IfSome y (IsKept s)
        → IfSome (then_refined around side v y) (IsKept s)
    then_kept side v s None free first = tt
    then_kept side v s (Some t) free first =
        after_both s t first (side_refined around side v t)
        (side_kept side v t (λ n at. first.copies n (free n at)))

    filter_kept : (filter : Filter) (s : State) → ((t : ℕ) → IsFiltered filter t → IsNoCopy (get s.temps t) x)
        → IfSome (after_filter around s filter) (IsKept s)
    filter_kept (usable source) s free =
        refined_from_kept s source (usable_values (value_of s source)) (get s.temps source) (free source refl)
    filter_kept (numbers_compare op left right) s free =
        then_kept right (right_numbers op (side_value left s) (side_value right s)) s
        (side_refined around left (left_numbers op (side_value left s) (side_value right s)) s)
        (λ t at. free t (inr at)) (side_kept left _ s (λ t at. free t (inl at)))
    filter_kept (pointers_compare equal left right) s free =
        then_kept right (right_addresses equal (side_value left s) (side_value right s)) s
        (side_refined around left (left_addresses equal (side_value left s) (side_value right s)) s)
        (λ t at. free t (inr at)) (side_kept left _ s (λ t at. free t (inl at)))

    -- ## Stores

    or_left_false : (a b : Bool) → (a || b) ≡ false → a ≡ false
    or_left_false true b is = absurd (true≢false is)
    or_left_false false b is = refl

    stored_kept : (v : Values) (y : ℕ) (ys : List ℕ) → is_among (y ∷ ys) x ≡ false → (b : Bool) (c : Cell)
        → stored_cell around v (y ∷ ys) (cond b (Some y) None) x c ≡ c
    stored_kept v y ys free true c = cond_other (eqb x y) _ c (or_left_false (eqb x y) (is_among ys x) free)
    stored_kept v y ys free false c = cond_other (is_among (y ∷ ys) x) _ c free

    store_same : (s : State) (v : Values) (ys : List ℕ) → is_among ys x ≡ false
        → IfSame (get s.cells x) x (after_store around s v ys)
    store_same s v [] free = tt
    store_same s v (y ∷ ys) free =
        changed_same (stored_cell around v (y ∷ ys) (single_of around.is_smashed (y ∷ ys))) s.cells x
        (always_kept (stored_cell around v (y ∷ ys) (single_of around.is_smashed (y ∷ ys)) x) (get s.cells x)
        (stored_kept v y ys free (list_all (eqb y) ys && not (around.is_smashed y))))

    -- ## Clearings, loads

    cleared_kept : (cleared : Option Values) → cleared ≡ None → (c : Cell) → cleared_to cleared c ≡ c
    cleared_kept None is c = refl
    cleared_kept (Some v) is c = absurd (none-some v (sym is))

    load_any_same : (s : State) (target : ℕ) (ys : List ℕ) (range : Values)
        → IfSame (get s.cells x) x (after_load_any around s target ys range)
    load_any_same s target [] range = tt
    load_any_same s target (y ∷ ys) range = given_same s target range None x

    of_kept : (s : State) (y : Option State) → IfSome y (IsKept s) → IfSame (get s.cells x) x y
    of_kept s None h = tt
    of_kept s (Some t) h = h.same

    effect_same : (action : Action) (s : State) (store : Interferences) → Leaves around action s store x
        → IfSame (get s.cells x) x (effect around action s store)
    unfolding effect Leaves
    effect_same skips s store h = refl
    effect_same (gives target calculation) s store h = given_same s target (calculated calculation s) None x
    effect_same (refines filter) s store h = of_kept s (after_filter around s filter) (filter_kept filter s h)
    effect_same (loads spots target address) s store h =
        given_same s target (loaded around s store (targets_at spots (value_of s address).pointers))
        (new_copy around s (single_of around.is_smashed (targets_at spots (value_of s address).pointers))) x
    effect_same (loads_any spots target address range) s store h =
        load_any_same s target (targets_at spots (value_of s address).pointers) range
    effect_same (stores spots address source) s store h =
        store_same s (value_of s source) (targets_at spots (value_of s address).pointers) h
    effect_same (clears cleared) s store h =
        changed_same (λ y. cleared_to (cleared y)) s.cells x
        (always_kept (cleared_to (cleared x)) (get s.cells x) (cleared_kept (cleared x) h))
    effect_same (locks m) s store h =
        by_cond (holds around m) (get s.cells x) x None (Some (after_lock around s store m)) tt
        (changed_same (λ y c. aged (taken around store m y c)) s.cells x h)
    effect_same (unlocks m) s store h =
        by_cond (holds around m) (get s.cells x) x (Some (after_unlock s m)) None
        (changed_same (λ y c. released m c) s.cells x h) tt
    effect_same yields s store h = changed_same (λ y c. aged c) s.cells x h
    effect_same (probes m target true) s store h = given_same s target (only_numbers (single (pos 1))) None x
    effect_same (probes m target false) s store h =
        by_cond (holds around m) (get s.cells x) x None (Some (after_free around s store m target)) tt
        (changed_same (taken around store m) s.cells x h)

    arrived_same : (at : Option Cell) (y : Option State) → IfSame at x y → IfSame at x (option_map (arrived around) y)
    arrived_same at None h = tt
    arrived_same at (Some t) h = h

    -- the frame law: what an operation leaves stands after it as before it, in all its attributes
    pub rows_frame : (action : Action) (s : State) (store : Interferences) → Leaves around action s store x
        → IfSame (get s.cells x) x (after around action s store)
    rows_frame action s store h =
        arrived_same (get s.cells x) (effect around action s store) (effect_same action s store h)

    -- ## What is carried

    -- where the operation makes nothing of cells by themselves
    plain : (s : State) (y : Option State) → IfSame (get s.cells x) x y
        → IfSame (option_map (λ (c : Cell). c) (get s.cells x)) x y
    plain s y h = subst (λ a. IfSame a x y) (same_map (get s.cells x)) h

    effect_carries : (action : Action) (s : State) (store : Interferences) → Passes action s x
        → IfSame (option_map (carried_by around action store x) (get s.cells x)) x (effect around action s store)
    unfolding effect Leaves Passes carried_by
    effect_carries skips s store h = plain s (Some s) (effect_same skips s store tt)
    effect_carries (gives target calculation) s store h =
        plain s (effect around (gives target calculation) s store) (effect_same (gives target calculation) s store tt)
    effect_carries (refines filter) s store h =
        plain s (effect around (refines filter) s store) (effect_same (refines filter) s store h)
    effect_carries (loads spots target address) s store h =
        plain s (effect around (loads spots target address) s store)
        (effect_same (loads spots target address) s store tt)
    effect_carries (loads_any spots target address range) s store h =
        plain s (effect around (loads_any spots target address range) s store)
        (effect_same (loads_any spots target address range) s store tt)
    effect_carries (stores spots address source) s store h =
        plain s (effect around (stores spots address source) s store)
        (effect_same (stores spots address source) s store h)
    effect_carries (clears cleared) s store h =
        plain s (effect around (clears cleared) s store) (effect_same (clears cleared) s store h)
    effect_carries (locks m) s store h =
        by_cond (holds around m) (option_map (carried_by around (locks m) store x) (get s.cells x)) x None
        (Some (after_lock around s store m)) tt
        (changed_map (λ y c. aged (taken around store m y c)) s.cells x)
    effect_carries (unlocks m) s store h =
        by_cond (holds around m) (option_map (carried_by around (unlocks m) store x) (get s.cells x)) x
        (Some (after_unlock s m)) None
        (changed_map (λ y c. released m c) s.cells x) tt
    effect_carries yields s store h = changed_map (λ y c. aged c) s.cells x
    effect_carries (probes m target true) s store h =
        plain s (effect around (probes m target true) s store) (effect_same (probes m target true) s store tt)
    effect_carries (probes m target false) s store h =
        by_cond (holds around m) (option_map (carried_by around (probes m target false) store x) (get s.cells x)) x None
        (Some (after_free around s store m target)) tt
        (changed_map (taken around store m) s.cells x)

    -- what an operation does not write is after it what the operation makes of each cell by itself
    pub rows_carry : (action : Action) (s : State) (store : Interferences) → Passes action s x
        → IfSame (option_map (carried_by around action store x) (get s.cells x)) x (after around action s store)
    rows_carry action s store h =
        arrived_same (option_map (carried_by around action store x) (get s.cells x)) (effect around action s store)
        (effect_carries action s store h)
