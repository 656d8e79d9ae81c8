-- What a row gives is a state.
use Rattle.std.specs.Prelude.{◌≡◌, ℕ, Bool, true, false, cond, eqb, List, [], ◌∷◌, Option, Some, None, pos, refl}
use Rattle.std.specs.FinMap.{get}
use Rattle.std.specs.Option.{option_map}
use Rattle.interfere_set.specs.strided_dom.Progression.{single}
use Rattle.cell_env.specs.tm_lattice.Tables.{IsEntry, IsTable, changed_table}
use Rattle.interfere_set.specs.pointer_dom.Values.{Values, IsValues, no_value}
use Rattle.interfere_set.specs.pointer_dom.laws.ValueLaws.{values_join}
use Rattle.interfere_set.specs.Stores.{Interferences, IsStore, visible, handed}
use Rattle.interfere_set.specs.laws.Joins.{none_is, all_is}
use Rattle.interfere_set.specs.laws.Hearing.{visible_is, handed_is, cond_is}
use Rattle.operator_values.specs.SetsOfPointers.{left_pointers_fit, right_pointers_fit}
use Rattle.transfer_rows.specs.StateForms.{Cell, State, IsTempForm, IsCellForm, IsStateForm, is_no_value, only_numbers, value_of}
use Rattle.transfer_rows.specs.Actions.{Around, Filter, usable, numbers_compare, pointers_compare, IsFilter, usable_is, numbers_compare_is, pointers_compare_is, Action, skips, gives, refines, loads}
use Rattle.transfer_rows.specs.Actions.{loads_any, stores, clears, locks, unlocks, yields, probes, IsAction, skips_is, gives_is, refines_is, loads_is, loads_any_is, stores_is, clears_is, locks_is, unlocks_is, yields_is, probes_is}
use Rattle.transfer_rows.specs.Calculations.{calculated, usable_values, side_value, left_numbers, right_numbers, left_addresses, right_addresses}
use Rattle.transfer_rows.specs.Accesses.{is_among, targets_at, single_of}
use Rattle.transfer_rows.specs.Rows.{given, dropped, overwriting, joining, found_in, loaded, new_copy, after_load_any, stored_cell, after_store, cleared_to, is_cleared, taken, side_refined, after_filter, holds, effect, arrived, after}
use Rattle.transfer_rows.proofs.TableChanges.{changed_is, inserted_is, kept_is}
use Rattle.transfer_rows.proofs.Monotone.{value_is}
use Rattle.transfer_rows.proofs.ValuesRise.{calculated_fits}
use Rattle.transfer_rows.proofs.RowsRise.{side_is, IsMaybe, none_maybe, some_maybe, cond_maybe, side_maybe, then_maybe, refined_maybe}

module _ (around : Around) where
  where_maybe : (b : Bool) (x : State) → IsStateForm x → IsMaybe around (cond b (Some x) None)
  where_maybe true x h = some_maybe around x h
  where_maybe false x h = none_maybe around

  module _ (s : State) (s-is : IsStateForm s) where
    given_is : (t : ℕ) (v : Values) (copy : Option ℕ) → IsValues v → IsMaybe around (given s t v copy)
    given_is t v copy v-is = cond_maybe around (is_no_value v) _ record { temps = inserted_is IsTempForm (λ t. ⊥) s.temps t record { value = v; copy = copy } v-is (λ n. n) s-is.temps; cells = s-is.cells }

    dropped_is : (test : ℕ → Bool) → IsTable IsTempForm (λ t. ⊥) (dropped test s.temps)
    dropped_is test = changed_is IsTempForm (λ t. ⊥) _ s.temps (λ t e at e-is. (e-is, λ n. n)) s-is.temps

    cells_are : (change : ℕ → Cell → Cell) → ((x : ℕ) (c : Cell) → IsCellForm c → IsCellForm (change x c)) → IsTable IsCellForm (λ c. ⊥) (changed_table change s.cells)
    cells_are change keeps = changed_is IsCellForm (λ c. ⊥) change s.cells (λ x c at c-is. (keeps x c c-is, λ n. n)) s-is.cells

    stored_is : (v : Values) (xs : List ℕ) (a : Option ℕ) (y : ℕ) (c : Cell) → IsValues v → IsCellForm c → IsCellForm (stored_cell around v xs a y c)
    stored_is v xs None y c v-is c-is = by_test (is_among xs y)
      where
        by_test : (b : Bool) → IsCellForm (cond b (joining (around.is_shared y) around.reader.held v c) c)
        by_test true = values_join.value c.value v c-is v-is
        by_test false = c-is
    stored_is v xs (Some x) y c v-is c-is = by_test (eqb y x)
      where
        by_test : (b : Bool) → IsCellForm (cond b (overwriting (around.is_shared y) around.reader.held v c) c)
        by_test true = v-is
        by_test false = c-is

    store_is : (v : Values) (xs : List ℕ) → IsValues v → IsMaybe around (after_store around s v xs)
    store_is v [] v-is = none_maybe around
    store_is v (x ∷ xs) v-is = some_maybe around _ record { temps = dropped_is (is_among (x ∷ xs)); cells = cells_are _ (λ y c c-is. stored_is v (x ∷ xs) (single_of around.is_smashed (x ∷ xs)) y c v-is c-is) }

    any_is : (target : ℕ) (xs : List ℕ) (range : Values) → IsValues range → IsMaybe around (after_load_any around s target xs range)
    any_is target [] range is = none_maybe around
    any_is target (x ∷ xs) range is = given_is target range None is

    cleared_is : (a : Option Values) (c : Cell) → ((v : Values) → a ≡ Some v → IsValues v) → IsCellForm c → IsCellForm (cleared_to a c)
    cleared_is None c is c-is = c-is
    cleared_is (Some v) c is c-is = is v refl

    filter_is : (filter : Filter) → IsFilter filter → IsMaybe around (after_filter around s filter)
    filter_is (usable source) usable_is = refined_maybe around s source (usable_values (value_of s source)) s-is (value_is s source s-is)
    filter_is (numbers_compare op left right) (numbers_compare_is l-is r-is) =
        then_maybe around right (right_numbers op (side_value left s) (side_value right s)) (side_refined around left (left_numbers op (side_value left s) (side_value right s)) s)
        (side_maybe around left (left_numbers op (side_value left s) (side_value right s)) s s-is none_is) none_is
    filter_is (pointers_compare equal left right) (pointers_compare_is l-is r-is) =
        let v = side_value left s in
        let w = side_value right s in
        let v-is = side_is left s l-is s-is in
        let w-is = side_is right s r-is s-is in
        then_maybe around right (right_addresses equal v w) (side_refined around left (left_addresses equal v w) s) (side_maybe around left (left_addresses equal v w) s s-is (left_pointers_fit equal v.pointers w.pointers v-is w-is))
        (right_pointers_fit equal v.pointers w.pointers v-is w-is)

    module _ (store : Interferences) (store-is : IsStore store) where
      found_is : (x : ℕ) (a : Option Cell) → IsEntry IsCellForm (λ c. ⊥) a → IsValues (found_in around store x a)
      found_is x None h = none_is
      found_is x (Some c) h = values_join.value c.value (cond (around.is_shared x) (visible around.reader c.fresh x store) no_value) h.0
          (cond_is (around.is_shared x) (visible around.reader c.fresh x store) no_value (visible_is around.reader x c.fresh store store-is.weak) none_is)

      taken_is : (m x : ℕ) (c : Cell) → IsCellForm c → IsCellForm (taken around store m x c)
      taken_is m x c c-is = values_join.value c.value (cond (around.is_shared x) (handed around.reader.task m x store) no_value) c-is
          (cond_is (around.is_shared x) (handed around.reader.task m x store) no_value (handed_is around.reader.task m x store store-is.sync) none_is)

      effect_is : (action : Action) → IsAction action → IsMaybe around (effect around action s store)
      unfolding effect
      effect_is skips skips_is = some_maybe around s s-is
      effect_is (gives target calculation) (gives_is is) = given_is target (calculated calculation s) None (calculated_fits calculation s is s-is)
      effect_is (refines filter) (refines_is is) = filter_is filter is
      effect_is (loads spots target address) loads_is =
          let xs = targets_at spots (value_of s address).pointers in
          given_is target (loaded around s store xs) (new_copy around s (single_of around.is_smashed xs)) (all_is (λ x. found_in around store x (get s.cells x)) xs (λ x h. found_is x (get s.cells x) (s-is.cells x)))
      effect_is (loads_any spots target address range) (loads_any_is is) = any_is target (targets_at spots (value_of s address).pointers) range is
      effect_is (stores spots address source) stores_is = store_is (value_of s source) (targets_at spots (value_of s address).pointers) (value_is s source s-is)
      effect_is (clears cleared) (clears_is is) = some_maybe around _ record { temps = dropped_is (λ x. is_cleared (cleared x)); cells = cells_are _ (λ x c c-is. cleared_is (cleared x) c (is x) c-is) }
      effect_is (locks m) locks_is = cond_maybe around (holds around m) _ record { temps = dropped_is (λ x. true); cells = cells_are _ (λ x c c-is. taken_is m x c c-is) }
      effect_is (unlocks m) unlocks_is = where_maybe (holds around m) _ record { temps = s-is.temps; cells = cells_are _ (λ x c c-is. c-is) }
      effect_is yields yields_is = some_maybe around _ record { temps = s-is.temps; cells = cells_are _ (λ x c c-is. c-is) }
      effect_is (probes m target true) probes_is = given_is target (only_numbers (single (pos 1))) None none_is
      effect_is (probes m target false) probes_is = cond_maybe around (holds around m) _ record {
        temps = inserted_is IsTempForm (λ t. ⊥) (dropped (λ x. true) s.temps) target record { value = only_numbers (single (pos 0)); copy = None } none_is (λ n. n) (dropped_is (λ x. true));
        cells = cells_are _ (λ x c c-is. taken_is m x c c-is);
      }

      arrived_is : (a : Option State) → IsMaybe around a → IsMaybe around (option_map (arrived around) a)
      arrived_is None h = none_maybe around
      arrived_is (Some x) h = let x-is = h x refl in some_maybe around (arrived around x) record { temps = kept_is IsTempForm (λ t. ⊥) x.temps around.is_live x-is.temps; cells = x-is.cells }

      -- the state after an operation is a state
      pub after_is : (action : Action) → IsAction action → IsMaybe around (after around action s store)
      after_is action is = arrived_is (effect around action s store) (effect_is action is)
