-- An operation looks at no cell but those at which it may look.
use Rattle.std.specs.Prelude.{◌≡◌, ℕ, Bool, true, false, ◌&&◌, ◌||◌, not, cond, eqb, List, [], ◌∷◌, Option, Some, None}
use Rattle.std.specs.Prelude.{refl, pos}
use Rattle.std.proofs.Common.{sym, ap, subst, ◌∙◌, inl, inr}
use Rattle.std.specs.FinMap.{get, insert, retain_keys}
use Rattle.std.specs.Option.{option_map}
use Rattle.std.specs.List.{list_all}
use Rattle.std.proofs.lemmas.Bool.{cases_eq, eq-eqb, false≢true}
use Rattle.transfer_rows.specs.cell_env.tm_lattice.Tables.{Table, changed_table}
use Rattle.transfer_rows.specs.cell_env.tm_lattice.laws.TableLaws.{get-insert_here, get-insert_there}
use Rattle.transfer_rows.specs.cell_env.tm_lattice.laws.SelectedLaws.{changed_at, get-changed_table}
use Rattle.transfer_rows.specs.interfere_set.pointer_dom.Values.{Values, joined_values, no_value}
use Rattle.transfer_rows.specs.interfere_set.strided_dom.Progression.{single}
use Rattle.transfer_rows.specs.interfere_set.Stores.{Interferences, joined_onto}
use Rattle.transfer_rows.specs.StateForms.{Cell, State, Temp, is_no_value, only_numbers, value_of, own_value}
use Rattle.transfer_rows.specs.Accesses.{is_among, targets_at, single_of}
use Rattle.transfer_rows.specs.Actions.{Around, Action, Filter, Side, temporary, fixed, usable, numbers_compare}
use Rattle.transfer_rows.specs.Actions.{pointers_compare, skips, gives, refines, loads, loads_any, stores, clears}
use Rattle.transfer_rows.specs.Actions.{locks, unlocks, yields, probes, Calculation, constant, copied, negated}
use Rattle.transfer_rows.specs.Actions.{complemented, operated, converted, compared, part, element, moved, dereferenced}
use Rattle.transfer_rows.specs.Calculations.{calculated, usable_values, side_value, left_numbers, right_numbers}
use Rattle.transfer_rows.specs.Calculations.{left_addresses, right_addresses}
use Rattle.transfer_rows.specs.Meanings.{IsFiltered, IsAt}
use Rattle.transfer_rows.specs.Rows.{given, aged, released, after_unlock, cleared_to}
use Rattle.transfer_rows.specs.Rows.{met_where, refined, refined_from, side_refined, then_refined}
use Rattle.transfer_rows.specs.Rows.{after_filter, found_in, loaded, new_copy, after_load_any, is_stored}
use Rattle.transfer_rows.specs.Rows.{stored_cell, after_store, taken, after_lock, after_free, is_contradicted, holds}
use Rattle.transfer_rows.specs.Rows.{effect, arrived, after}
use Rattle.sparse_rows.specs.Looked as looked
use Rattle.sparse_rows.specs.Looked.{Looks}

module _ (around : Around) (touch : ℕ → Bool) where
  abbrev Agree : State → State → Type 0
  Agree s t = looked.Agree touch s t

  abbrev Alike : Option State → Option State → Type 0
  Alike y z = looked.Alike touch y z

  abbrev IsCopyIn : Option Temp → Type 0
  IsCopyIn a = looked.IsCopyIn touch a

  alike_cond : (b : Bool) (y z y' z' : Option State) → Alike y y' → Alike z z' → Alike (cond b y z) (cond b y' z')
  alike_cond true y z y' z' one other = one
  alike_cond false y z y' z' one other = other

  -- ## States with the same temporaries

  module _ (p : Table Temp) (c d : Table Cell) (cells : (x : ℕ) → touch x ≡ true → get c x ≡ get d x) where
    abbrev s : State
    s = record { temps = p; cells = c }

    abbrev t : State
    t = record { temps = p; cells = d }

    given_alike : (target : ℕ) (v w : Values) (copy other : Option ℕ) → v ≡ w → copy ≡ other
        → Alike (given s target v copy) (given t target w other)
    given_alike target v w copy other values copies =
        subst (λ u. Alike (given s target v copy) (given t target u other)) values
        (subst (λ o. Alike (given s target v copy) (given t target v o)) copies
        (alike_cond (is_no_value v) None (Some record { temps = insert p target record { value = v; copy = copy }; cells = c })
        None (Some record { temps = insert p target record { value = v; copy = copy }; cells = d })
        tt record { temps = refl; cells = cells }))

    changed_alike : (f : ℕ → Cell → Cell) (x : ℕ) → touch x ≡ true
        → get (changed_table f c) x ≡ get (changed_table f d) x
    changed_alike f x in-touch =
        get-changed_table f c x ∙ ap (changed_at f x) (cells x in-touch) ∙ sym (get-changed_table f d x)

    -- ## Tests

    refined_alike : (u : ℕ) (v : Values) (copy : Option ℕ) → Agree (refined s u v copy) (refined t u v copy)
    refined_alike u v copy = record { temps = refl; cells = changed_alike (met_where copy v) }

    contradicted_alike : (u : ℕ) (v : Values) (copy : Option ℕ) → ((x : ℕ) → copy ≡ Some x → touch x ≡ true)
        → is_contradicted around (refined s u v copy) copy ≡ is_contradicted around (refined t u v copy) copy
    contradicted_alike u v None within = refl
    contradicted_alike u v (Some x) within =
        ap (λ (a : Option Cell). not (around.is_shared x) && is_no_value (own_value a))
        (changed_alike (met_where (Some x) v) x (within x refl))

    refined_from_alike : (u : ℕ) (v : Values) (before : Option Temp) → IsCopyIn before
        → Alike (refined_from around s u v before) (refined_from around t u v before)
    refined_from_alike u v None within = tt
    refined_from_alike u v (Some e) within =
        subst (λ b. Alike (refined_from around s u v (Some e))
        (cond (is_no_value v || b) None (Some (refined t u v e.copy))))
        (contradicted_alike u v e.copy within)
        (alike_cond (is_no_value v || is_contradicted around (refined s u v e.copy) e.copy) None
        (Some (refined s u v e.copy)) None (Some (refined t u v e.copy)) tt (refined_alike u v e.copy))

    side_same : (side : Side) (v : Values) → ((u : ℕ) → IsAt side u → IsCopyIn (get p u))
        → Alike (side_refined around side v s) (side_refined around side v t)
    side_same (temporary u) v within = refined_from_alike u v (get p u) (within u refl)
    side_same (fixed value) v within = alike_cond (is_no_value v) None (Some s) None (Some t) tt
        record { temps = refl; cells = cells }

  -- the same of states of which the temporaries are equal
  side_alike : (s t : State) → Agree s t → (side : Side) (v : Values)
      → ((u : ℕ) → IsAt side u → IsCopyIn (get s.temps u))
      → Alike (side_refined around side v s) (side_refined around side v t)
  side_alike s t h side v within =
      subst (λ (q : Table Temp). Alike (side_refined around side v s)
      (side_refined around side v (record { temps = q; cells = t.cells }))) h.temps
      (side_same s.temps s.cells t.cells h.cells side v within)

  -- ## The right side of a test, after the left one

  abbrev CopiesStay : State → Option State → Type 0
  CopiesStay s None = Unit {0}
  CopiesStay s (Some t) = (u : ℕ) → IsCopyIn (get s.temps u) → IsCopyIn (get t.temps u)

  insert_in : (temps : Table Temp) (n : ℕ) (e : Temp) → IsCopyIn (Some e) → (u : ℕ) → IsCopyIn (get temps u)
      → IsCopyIn (get (insert temps n e) u)
  insert_in temps n e new u old = elim (cases_eq u n) [
    | inl here ↦ subst IsCopyIn (sym (get-insert_here temps n e u here)) new
    | inr there ↦ subst IsCopyIn (sym (get-insert_there temps n e u there)) old
  ]

  stays_cond : (b : Bool) (s : State) (y z : Option State) → CopiesStay s y → CopiesStay s z
      → CopiesStay s (cond b y z)
  stays_cond true s y z one other = one
  stays_cond false s y z one other = other

  refined_stays : (s : State) (n : ℕ) (v : Values) (before : Option Temp) → IsCopyIn before
      → CopiesStay s (refined_from around s n v before)
  refined_stays s n v None within = tt
  refined_stays s n v (Some e) within = stays_cond
      (is_no_value v || is_contradicted around (refined s n v e.copy) e.copy) s None (Some (refined s n v e.copy)) tt
      (insert_in s.temps n (record { value = v; copy = e.copy }) within)

  side_stays : (s : State) (side : Side) (v : Values) → ((u : ℕ) → IsAt side u → IsCopyIn (get s.temps u))
      → CopiesStay s (side_refined around side v s)
  side_stays s (temporary n) v within = refined_stays s n v (get s.temps n) (within n refl)
  side_stays s (fixed value) v within = stays_cond (is_no_value v) s None (Some s) tt (λ u h. h)

  then_alike : (s : State) (y z : Option State) → Alike y z → CopiesStay s y → (side : Side) (v : Values)
      → ((u : ℕ) → IsAt side u → IsCopyIn (get s.temps u))
      → Alike (then_refined around side v y) (then_refined around side v z)
  then_alike s None None h stays side v within = tt
  then_alike s None (Some t) h stays side v within = absurd h
  then_alike s (Some q) None h stays side v within = absurd h
  then_alike s (Some q) (Some t) h stays side v within =
      side_alike q t h side v (λ u at. stays u (within u at))

  module _ (p : Table Temp) (c d : Table Cell) (cells : (x : ℕ) → touch x ≡ true → get c x ≡ get d x) where
    abbrev one : State
    one = record { temps = p; cells = c }

    abbrev two : State
    two = record { temps = p; cells = d }

    both_sides : (left right : Side) (v w : Values) → ((u : ℕ) → IsAt left u → IsCopyIn (get p u))
        → ((u : ℕ) → IsAt right u → IsCopyIn (get p u))
        → Alike (then_refined around right w (side_refined around left v one))
        (then_refined around right w (side_refined around left v two))
    both_sides left right v w in-left in-right =
        then_alike one (side_refined around left v one) (side_refined around left v two)
        (side_same p c d cells left v in-left) (side_stays one left v in-left) right w in-right

    same_side : (side : Side) → side_value side one ≡ side_value side two
    same_side (temporary n) = refl
    same_side (fixed value) = refl

    with_values : (left right : Side) (y : Option State) (F : Values → Values → Option State)
        → Alike y (F (side_value left one) (side_value right one))
        → Alike y (F (side_value left two) (side_value right two))
    with_values left right y F h =
        subst (λ w. Alike y (F (side_value left two) w)) (same_side right)
        (subst (λ v. Alike y (F v (side_value right one))) (same_side left) h)

    filter_alike : (filter : Filter) → ((u : ℕ) → IsFiltered filter u → IsCopyIn (get p u))
        → Alike (after_filter around one filter) (after_filter around two filter)
    filter_alike (usable source) within =
        refined_from_alike p c d cells source (usable_values (value_of one source)) (get p source)
        (within source refl)
    filter_alike (numbers_compare op left right) within =
        with_values left right (after_filter around one (numbers_compare op left right))
        (λ v w. then_refined around right (right_numbers op v w)
        (side_refined around left (left_numbers op v w) two))
        (both_sides left right (left_numbers op (side_value left one) (side_value right one))
        (right_numbers op (side_value left one) (side_value right one))
        (λ u at. within u (inl at)) (λ u at. within u (inr at)))
    filter_alike (pointers_compare equal left right) within =
        with_values left right (after_filter around one (pointers_compare equal left right))
        (λ v w. then_refined around right (right_addresses equal v w)
        (side_refined around left (left_addresses equal v w) two))
        (both_sides left right (left_addresses equal (side_value left one) (side_value right one))
        (right_addresses equal (side_value left one) (side_value right one))
        (λ u at. within u (inl at)) (λ u at. within u (inr at)))

    -- ## Loads

    or_first : (a b : Bool) → a ≡ true → (a || b) ≡ true
    or_first true b h = refl
    or_first false b h = absurd (false≢true h)

    or_second : (a b : Bool) → b ≡ true → (a || b) ≡ true
    or_second true b h = refl
    or_second false b h = h

    onto_alike : (store : Interferences) (xs : List ℕ) → ((x : ℕ) → is_among xs x ≡ true → touch x ≡ true)
        → (base : Values) → joined_onto (λ x. found_in around store x (get c x)) base xs
        ≡ joined_onto (λ x. found_in around store x (get d x)) base xs
    onto_alike store [] within base = refl
    onto_alike store (x ∷ xs) within base =
        ap (λ (a : Option Cell). joined_onto (λ y. found_in around store y (get c y))
        (joined_values base (found_in around store x a)) xs)
        (cells x (within x (or_first (eqb x x) (is_among xs x) (eq-eqb x x refl))))
        ∙ onto_alike store xs (λ y among. within y (or_second (eqb y x) (is_among xs y) among))
        (joined_values base (found_in around store x (get d x)))

    copy_alike : (xs : List ℕ) → ((x : ℕ) → is_among xs x ≡ true → touch x ≡ true)
        → new_copy around one (single_of around.is_smashed xs) ≡ new_copy around two (single_of around.is_smashed xs)
    copy_alike [] within = refl
    copy_alike (x ∷ xs) within =
        by_single (list_all (eqb x) xs && not (around.is_smashed x))
      where
        by_single : (b : Bool) → new_copy around one (cond b (Some x) None) ≡ new_copy around two (cond b (Some x) None)
        by_single true = ap (λ (a : Option Cell). cond (around.is_shared x || is_stored a) (Some x) None)
            (cells x (within x (or_first (eqb x x) (is_among xs x) (eq-eqb x x refl))))
        by_single false = refl

    -- ## Each operation

    calculated_alike : (calculation : Calculation) → calculated calculation one ≡ calculated calculation two
    unfolding calculated
    calculated_alike (constant value) = refl
    calculated_alike (copied source) = refl
    calculated_alike (negated type source) = refl
    calculated_alike (complemented type source) = refl
    calculated_alike (operated op type left right) = refl
    calculated_alike (converted type source) = refl
    calculated_alike (compared equal left right) = refl
    calculated_alike (part size source) = refl
    calculated_alike (element count size source index) = refl
    calculated_alike (moved forward size source count) = refl
    calculated_alike (dereferenced alive stands source) = refl

    load_any_alike : (target : ℕ) (ys : List ℕ) (range : Values)
        → Alike (after_load_any around one target ys range) (after_load_any around two target ys range)
    load_any_alike target [] range = tt
    load_any_alike target (y ∷ ys) range = given_alike p c d cells target range range None None refl refl

    store_alike : (v : Values) (ys : List ℕ) → Alike (after_store around one v ys) (after_store around two v ys)
    store_alike v [] = tt
    store_alike v (y ∷ ys) = record {
      temps = refl;
      cells = changed_alike p c d cells (stored_cell around v (y ∷ ys) (single_of around.is_smashed (y ∷ ys)));
    }

    effect_alike : (action : Action) (store : Interferences) → Looks touch action one
        → Alike (effect around action one store) (effect around action two store)
    unfolding effect Looks
    effect_alike skips store h = record { temps = refl; cells = cells }
    effect_alike (gives target calculation) store h =
        given_alike p c d cells target (calculated calculation one) (calculated calculation two) None None
        (calculated_alike calculation) refl
    effect_alike (refines filter) store h = filter_alike filter h
    effect_alike (loads spots target address) store h =
        given_alike p c d cells target
        (loaded around one store (targets_at spots (value_of one address).pointers))
        (loaded around two store (targets_at spots (value_of one address).pointers))
        (new_copy around one (single_of around.is_smashed (targets_at spots (value_of one address).pointers)))
        (new_copy around two (single_of around.is_smashed (targets_at spots (value_of one address).pointers)))
        (onto_alike store (targets_at spots (value_of one address).pointers) h no_value)
        (copy_alike (targets_at spots (value_of one address).pointers) h)
    effect_alike (loads_any spots target address range) store h =
        load_any_alike target (targets_at spots (value_of one address).pointers) range
    effect_alike (stores spots address source) store h =
        store_alike (value_of one source) (targets_at spots (value_of one address).pointers)
    effect_alike (clears cleared) store h = record {
      temps = refl;
      cells = changed_alike p c d cells (λ y. cleared_to (cleared y));
    }
    effect_alike (locks m) store h =
        alike_cond (holds around m) None (Some (after_lock around one store m)) None
        (Some (after_lock around two store m)) tt
        record { temps = refl; cells = changed_alike p c d cells (λ y e. aged (taken around store m y e)) }
    effect_alike (unlocks m) store h =
        alike_cond (holds around m) (Some (after_unlock one m)) None (Some (after_unlock two m)) None
        record { temps = refl; cells = changed_alike p c d cells (λ y e. released m e) } tt
    effect_alike yields store h =
        record { temps = refl; cells = changed_alike p c d cells (λ y e. aged e) }
    effect_alike (probes m target true) store h =
        given_alike p c d cells target (only_numbers (single (pos 1))) (only_numbers (single (pos 1))) None None refl
        refl
    effect_alike (probes m target false) store h =
        alike_cond (holds around m) None (Some (after_free around one store m target)) None
        (Some (after_free around two store m target)) tt
        record { temps = refl; cells = changed_alike p c d cells (taken around store m) }

  arrived_alike : (y z : Option State) → Alike y z
      → Alike (option_map (arrived around) y) (option_map (arrived around) z)
  arrived_alike None None h = tt
  arrived_alike None (Some t) h = absurd h
  arrived_alike (Some s) None h = absurd h
  arrived_alike (Some s) (Some t) h = record {
    temps = ap (λ q. retain_keys q around.is_live) h.temps;
    cells = h.cells;
  }

  -- locality: states that agree where an operation may look lead to states that agree there, or neither leads on
  pub rows_local : (action : Action) (s t : State) (store : Interferences) → Looks touch action s → Agree s t
      → Alike (after around action s store) (after around action t store)
  rows_local action s t store looks h =
      arrived_alike (effect around action s store) (effect around action t store)
      (subst (λ (q : Table Temp). Alike (effect around action s store)
      (effect around action (record { temps = q; cells = t.cells }) store)) h.temps
      (effect_alike s.temps s.cells t.cells h.cells action store looks))
