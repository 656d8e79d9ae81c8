-- The state after an operation, its targets, what it adds and the classes that it does not exclude rise with the state
-- and the store.
use Rattle.std.specs.Prelude.{◌≡◌, ℕ, ◌<◌, ◌/◌, ◌^◌, max, Bool, true, false, ◌&&◌, ◌||◌, cond, eqb, List, []}
use Rattle.std.specs.Prelude.{◌∷◌, Option, Some, None, pos, refl}
use Rattle.std.proofs.Common.{sym, ap, subst, ◌∙◌, arith}
use Rattle.std.specs.Int.{bit_at}
use Rattle.std.specs.FinMap.{get}
use Rattle.std.specs.Option.{option_map}
use Rattle.std.proofs.lemmas.Bool.{and_parts, and_from, false≢true, eqb-true, eq-eqb}
use Rattle.std.proofs.lemmas.Nat.{mod_below}
use Rattle.std.proofs.lemmas.Nat.Bits.{bit_at_or}
use Rattle.interfere_set.specs.strided_dom.Progression.{single}
use Rattle.tm_cint.specs.declared.Class.{Class}
use Rattle.cell_env.specs.tm_lattice.Tables.{IsEntry, IsBelow}
use Rattle.interfere_set.specs.pointer_dom.Values.{Values, IsValues, IsValuesBelow, no_value}
use Rattle.interfere_set.specs.pointer_dom.laws.ValueLaws.{values_order}
use Rattle.cell_env.specs.Cells.{IsWithin}
use Rattle.interfere_set.specs.Stores.{Interferences, IsStore, IsStoreBelow}
use Rattle.interfere_set.specs.laws.Joins.{none_is, none_below}
use Rattle.interfere_set.specs.laws.Hearing.{cond_is, cond_rises, cond_same}
use Rattle.operator_values.specs.SetsOfPointers.{left_pointers_fit, right_pointers_fit}
use Rattle.transfer_rows.specs.StateForms.{Temp, Cell, State, IsCellForm, IsStateForm, IsTempUnder}
use Rattle.transfer_rows.specs.StateForms.{IsCellUnder, IsStateUnder, is_no_value, only_numbers, value_of}
use Rattle.transfer_rows.specs.Actions.{Around, Spot, Side, temporary, fixed, IsSide, temporary_is, fixed_is, Filter}
use Rattle.transfer_rows.specs.Actions.{usable, numbers_compare, pointers_compare, IsFilter, usable_is}
use Rattle.transfer_rows.specs.Actions.{numbers_compare_is, pointers_compare_is, Action, skips, gives, refines, loads}
use Rattle.transfer_rows.specs.Actions.{loads_any, stores, clears, locks, unlocks, yields, probes, IsAction, skips_is}
use Rattle.transfer_rows.specs.Actions.{gives_is, refines_is, loads_is, loads_any_is, stores_is, clears_is, locks_is}
use Rattle.transfer_rows.specs.Actions.{unlocks_is, yields_is, probes_is}
use Rattle.transfer_rows.specs.Calculations.{calculated, usable_values, side_value, left_numbers, right_numbers}
use Rattle.transfer_rows.specs.Calculations.{left_addresses, right_addresses}
use Rattle.transfer_rows.specs.Accesses.{is_among, targets_at, AreAmong}
use Rattle.transfer_rows.specs.Rows.{after_load_any, refined, is_contradicted, refined_from, after_refined}
use Rattle.transfer_rows.specs.Rows.{side_refined, then_refined, after_filter, holds, effect, arrived, after}
use Rattle.transfer_rows.specs.Reports.{targets_of, FilterMayFail, left_by, AgreeOnSizes, weak_of, sync_of, IsListed}
use Rattle.transfer_rows.proofs.TableChanges.{kept_rises}
use Rattle.transfer_rows.proofs.Steps.{nothing_falls, cond_below, targets_rise, among_here}
use Rattle.transfer_rows.proofs.Monotone.{value_is, value_rises, given_rises, load_rises, lock_rises, free_rises}
use Rattle.transfer_rows.proofs.Monotone.{store_rises, clear_rises, unlock_rises, yield_rises, refined_is, refine_rises}
use Rattle.transfer_rows.proofs.ValuesRise.{calculated_fits, calculated_rises, side_rises, class_rises, usable_rise}
use Rattle.transfer_rows.proofs.ValuesRise.{left_numbers_rise, right_numbers_rise, left_addresses_rise}
use Rattle.transfer_rows.proofs.ValuesRise.{right_addresses_rise}

pub side_is : (side : Side) (s : State) → IsSide side → IsStateForm s → IsValues (side_value side s)
side_is (temporary number) s temporary_is s-is = value_is s number s-is
side_is (fixed value) s (fixed_is is) s-is = is

module _ (around : Around) where
  -- a state, if there is one
  abbrev pub IsMaybe : Option State → Type 0
  IsMaybe a = (s : State) → a ≡ Some s → IsStateForm s

  pub none_maybe : IsMaybe None
  none_maybe s e = absurd (let h : (let k : Option State = None in k ≡ Some s) = e in cc)

  pub some_maybe : (x : State) → IsStateForm x → IsMaybe (Some x)
  some_maybe x x-is s e = subst IsStateForm (let h : (let k : Option State = Some x in k ≡ Some s) = e in cc) x-is

  pub cond_maybe : (b : Bool) (x : State) → IsStateForm x → IsMaybe (cond b None (Some x))
  cond_maybe true x x-is = none_maybe
  cond_maybe false x x-is = some_maybe x x-is

  from_maybe : (s : State) (t : ℕ) (v : Values) (a : Option Temp) → IsStateForm s → IsValues v → IsMaybe (refined_from around s t v a)
  from_maybe s t v None s-is v-is = none_maybe
  from_maybe s t v (Some e) s-is v-is = cond_maybe (is_no_value v || is_contradicted around (refined s t v e.copy) e.copy) (refined s t v e.copy) (refined_is around s t v e.copy s-is v-is)

  pub side_maybe : (side : Side) (v : Values) (s : State) → IsStateForm s → IsValues v → IsMaybe (side_refined around side v s)
  side_maybe (temporary t) v s s-is v-is = from_maybe s t v (get s.temps t) s-is v-is
  side_maybe (fixed value) v s s-is v-is = cond_maybe (is_no_value v) s s-is

  pub then_maybe : (side : Side) (v : Values) (a : Option State) → IsMaybe a → IsValues v → IsMaybe (then_refined around side v a)
  then_maybe side v None a-is v-is = none_maybe
  then_maybe side v (Some s) a-is v-is = side_maybe side v s (a-is s refl) v-is

  pub refined_maybe : (s : State) (t : ℕ) (v : Values) → IsStateForm s → IsValues v → IsMaybe (after_refined around s t v)
  refined_maybe s t v s-is v-is = from_maybe s t v (get s.temps t) s-is v-is

  side_refined_rises : (side : Side) (s s' : State) (v w : Values) → IsStateForm s → IsStateForm s' → IsStateUnder s s' → IsValues v → IsValues w → IsValuesBelow v w
      → IsBelow IsStateUnder (side_refined around side v s) (side_refined around side w s')
  side_refined_rises (temporary t) s s' v w s-is s'-is le v-is w-is rises = refine_rises around s s' t v w s-is s'-is le v-is w-is rises
  side_refined_rises (fixed value) s s' v w s-is s'-is le v-is w-is rises = cond_below IsStateUnder (is_no_value v) (is_no_value w) s s' (nothing_falls v w v-is w-is rises) (λ some. le)

  then_rises : (side : Side) (v w : Values) (a b : Option State) → IsMaybe a → IsMaybe b → IsBelow IsStateUnder a b → IsValues v → IsValues w → IsValuesBelow v w
      → IsBelow IsStateUnder (then_refined around side v a) (then_refined around side w b)
  then_rises side v w None b a-is b-is le v-is w-is rises = tt
  then_rises side v w (Some s) None a-is b-is le v-is w-is rises = absurd le
  then_rises side v w (Some s) (Some s') a-is b-is le v-is w-is rises = side_refined_rises side s s' v w (a-is s refl) (b-is s' refl) le v-is w-is rises

  module _ (s s' : State) (s-is : IsStateForm s) (s'-is : IsStateForm s') (le : IsStateUnder s s') where
    -- two sides that are refined one after the other
    both_rise : (left right : Side) (v w v' w' : Values) → IsValues v → IsValues w → IsValues v' → IsValues w' → IsValuesBelow v v' → IsValuesBelow w w'
        → IsBelow IsStateUnder (then_refined around right w (side_refined around left v s)) (then_refined around right w' (side_refined around left v' s'))
    both_rise left right v w v' w' v-is w-is v'-is w'-is p q =
        then_rises right w w' (side_refined around left v s) (side_refined around left v' s') (side_maybe left v s s-is v-is) (side_maybe left v' s' s'-is v'-is)
        (side_refined_rises left s s' v v' s-is s'-is le v-is v'-is p) w-is w'-is q

    pub filter_rises : (filter : Filter) → IsFilter filter → IsBelow IsStateUnder (after_filter around s filter) (after_filter around s' filter)
    filter_rises (usable source) usable_is =
        refine_rises around s s' source (usable_values (value_of s source)) (usable_values (value_of s' source)) s-is s'-is le (value_is s source s-is) (value_is s' source s'-is)
        (usable_rise (value_of s source) (value_of s' source) (value_rises s s' source s'-is le))
    filter_rises (numbers_compare op left right) (numbers_compare_is l-is r-is) =
        let p = side_rises s s' s-is s'-is le left l-is in
        let q = side_rises s s' s-is s'-is le right r-is in
        let v = side_value left s in
        let w = side_value right s in
        let v' = side_value left s' in
        let w' = side_value right s' in
        both_rise left right (left_numbers op v w) (right_numbers op v w) (left_numbers op v' w') (right_numbers op v' w') none_is none_is none_is none_is
        (left_numbers_rise v w v' w' p q op) (right_numbers_rise v w v' w' p q op)
    filter_rises (pointers_compare equal left right) (pointers_compare_is l-is r-is) =
        let p = side_rises s s' s-is s'-is le left l-is in
        let q = side_rises s s' s-is s'-is le right r-is in
        let v = side_value left s in
        let w = side_value right s in
        let v' = side_value left s' in
        let w' = side_value right s' in
        let v-is = side_is left s l-is s-is in
        let w-is = side_is right s r-is s-is in
        let v'-is = side_is left s' l-is s'-is in
        let w'-is = side_is right s' r-is s'-is in
        both_rise left right (left_addresses equal v w) (right_addresses equal v w) (left_addresses equal v' w') (right_addresses equal v' w')
        (left_pointers_fit equal v.pointers w.pointers v-is w-is) (right_pointers_fit equal v.pointers w.pointers v-is w-is) (left_pointers_fit equal v'.pointers w'.pointers v'-is w'-is)
        (right_pointers_fit equal v'.pointers w'.pointers v'-is w'-is) (left_addresses_rise v w v' w' p q equal v-is w-is) (right_addresses_rise v w v' w' p q equal v-is w-is)

    any_rises : (target : ℕ) (xs ys : List ℕ) (range : Values) → IsValues range → AreAmong xs ys → IsBelow IsStateUnder (after_load_any around s target xs range) (after_load_any around s' target ys range)
    any_rises target [] ys range is fewer = tt
    any_rises target (x ∷ xs) [] range is fewer = absurd (false≢true (fewer.among x (among_here x x xs refl)))
    any_rises target (x ∷ xs) (y ∷ ys) range is fewer = given_rises around s s' s-is s'-is le target range range None None is is (values_order.reflexive range is) (λ some z e. e)

    reach : (spots : List Spot) (t : ℕ) → AreAmong (targets_at spots (value_of s t).pointers) (targets_at spots (value_of s' t).pointers)
    reach spots t = targets_rise around spots (value_of s t).pointers (value_of s' t).pointers (value_rises s s' t s'-is le).pointers

    only_if : (b : Bool) (x y : State) → IsStateUnder x y → IsBelow IsStateUnder (cond b None (Some x)) (cond b None (Some y))
    only_if true x y h = tt
    only_if false x y h = h

    only_where : (b : Bool) (x y : State) → IsStateUnder x y → IsBelow IsStateUnder (cond b (Some x) None) (cond b (Some y) None)
    only_where true x y h = h
    only_where false x y h = tt

    module _ (store store' : Interferences) (st-is : IsStore store) (st'-is : IsStore store') (grown : IsStoreBelow store store') where
      -- the state after an operation
      pub effect_rises : (action : Action) → IsAction action → IsBelow IsStateUnder (effect around action s store) (effect around action s' store')
      unfolding effect
      effect_rises skips skips_is = le
      effect_rises (gives target calculation) (gives_is is) =
          given_rises around s s' s-is s'-is le target (calculated calculation s) (calculated calculation s') None None (calculated_fits calculation s is s-is) (calculated_fits calculation s' is s'-is)
          (calculated_rises s s' s-is s'-is le calculation is) (λ some x e. e)
      effect_rises (refines filter) (refines_is is) = filter_rises filter is
      effect_rises (loads spots target address) loads_is = load_rises around s s' s-is s'-is le store store' st-is st'-is grown target _ _ (reach spots address)
      effect_rises (loads_any spots target address range) (loads_any_is is) = any_rises target _ _ range is (reach spots address)
      effect_rises (stores spots address source) stores_is =
          store_rises around s s' s-is s'-is le (value_of s source) (value_of s' source) _ _ (value_is s source s-is) (value_is s' source s'-is) (value_rises s s' source s'-is le) (reach spots address)
      effect_rises (clears cleared) (clears_is is) = clear_rises around s s' s-is s'-is le cleared is
      effect_rises (locks m) locks_is = only_if (holds around m) _ _ (lock_rises around s s' s-is s'-is le store store' st-is st'-is grown m)
      effect_rises (unlocks m) unlocks_is = only_where (holds around m) _ _ (unlock_rises around s s' s-is s'-is le m)
      effect_rises yields yields_is = yield_rises around s s' s-is s'-is le
      effect_rises (probes m target true) probes_is =
          given_rises around s s' s-is s'-is le target (only_numbers (single (pos 1))) (only_numbers (single (pos 1))) None None none_is none_is (values_order.reflexive (only_numbers (single (pos 1))) none_is) (λ some x e. e)
      effect_rises (probes m target false) probes_is = only_if (holds around m) _ _ (free_rises around s s' s-is s'-is le store store' st-is st'-is grown m target)

      arrived_rises : (a b : Option State) → IsBelow IsStateUnder a b → IsBelow IsStateUnder (option_map (arrived around) a) (option_map (arrived around) b)
      arrived_rises None b h = tt
      arrived_rises (Some x) None h = absurd h
      arrived_rises (Some x) (Some y) h = record { temps = kept_rises IsTempUnder x.temps y.temps around.is_live h.temps; cells = h.cells }

      pub after_rises : (action : Action) → IsAction action → IsBelow IsStateUnder (after around action s store) (after around action s' store')
      after_rises action is = arrived_rises (effect around action s store) (effect around action s' store') (effect_rises action is)

    -- its targets
    pub target_rises : (action : Action) → AreAmong (targets_of action s) (targets_of action s')
    unfolding targets_of
    target_rises (loads spots target address) = reach spots address
    target_rises (loads_any spots target address range) = reach spots address
    target_rises (stores spots address source) = reach spots address
    target_rises skips = record { among = λ x h. h }
    target_rises (gives target calculation) = record { among = λ x h. h }
    target_rises (refines filter) = record { among = λ x h. h }
    target_rises (clears cleared) = record { among = λ x h. h }
    target_rises (locks m) = record { among = λ x h. h }
    target_rises (unlocks m) = record { among = λ x h. h }
    target_rises yields = record { among = λ x h. h }
    target_rises (probes m target answer) = record { among = λ x h. h }

    nothing_more : IsValuesBelow no_value no_value
    nothing_more = values_order.reflexive no_value none_is

    and_rises : (a b c : Bool) → (b ≡ true → c ≡ true) → (a && b) ≡ true → (a && c) ≡ true
    and_rises a b c p h = let parts : (a ≡ true) × (b ≡ true) = and_parts a b h in and_from a c parts.0 (p parts.1)

    -- what it adds to weak entries
    pub weak_rises : (action : Action) (x : ℕ) → IsValuesBelow (weak_of around action s x) (weak_of around action s' x)
    unfolding weak_of
    weak_rises (stores spots address source) x =
        cond_rises (around.is_shared x && is_among (targets_at spots (value_of s address).pointers) x) (around.is_shared x && is_among (targets_at spots (value_of s' address).pointers) x) (value_of s source) (value_of s' source) (value_is s' source s'-is)
        (and_rises (around.is_shared x) (is_among (targets_at spots (value_of s address).pointers) x) (is_among (targets_at spots (value_of s' address).pointers) x) ((reach spots address).among x))
        (value_rises s s' source s'-is le)
    weak_rises skips x = nothing_more
    weak_rises (gives target calculation) x = nothing_more
    weak_rises (refines filter) x = nothing_more
    weak_rises (loads spots target address) x = nothing_more
    weak_rises (loads_any spots target address range) x = nothing_more
    weak_rises (clears cleared) x = nothing_more
    weak_rises (locks m) x = nothing_more
    weak_rises (unlocks m) x = nothing_more
    weak_rises yields x = nothing_more
    weak_rises (probes m target answer) x = nothing_more

    pending_more : (p q m : ℕ) → IsWithin p q → eqb (bit_at p m) 1 ≡ true → eqb (bit_at q m) 1 ≡ true
    pending_more p q m within h =
        let one = eqb-true (bit_at p m) 1 h in
        let both : bit_at q m ≡ max (bit_at p m) (bit_at q m) = ap (λ n. bit_at n m) (sym within) ∙ bit_at_or p q m in
        let small : bit_at q m < 2 = mod_below (q / 2 ^ m) 2 (omega arith) in
        eq-eqb (bit_at q m) 1 (omega (arith, one, both, small))

    left_rises : (m : ℕ) (a b : Option Cell) → IsEntry IsCellForm (λ c. ⊥) b → IsBelow IsCellUnder a b → IsValuesBelow (left_by m a) (left_by m b)
    left_rises m None None b-is below = nothing_more
    left_rises m None (Some d) b-is below = none_below (left_by m (Some d)) (cond_is (eqb (bit_at d.pending m) 1) d.value no_value b-is.0 none_is)
    left_rises m (Some c) None b-is below = absurd below
    left_rises m (Some c) (Some d) b-is below = cond_rises (eqb (bit_at c.pending m) 1) (eqb (bit_at d.pending m) 1) c.value d.value b-is.0 (pending_more c.pending d.pending m below.pending) below.value

    -- and to sync entries
    pub sync_rises : (action : Action) (n x : ℕ) → IsValuesBelow (sync_of around action s n x) (sync_of around action s' n x)
    unfolding sync_of
    sync_rises (unlocks m) n x = cond_same (around.is_shared x && (eqb n m && holds around m)) (left_by m (get s.cells x)) no_value (left_by m (get s'.cells x)) no_value (left_rises m (get s.cells x) (get s'.cells x) (s'-is.cells x) (le.cells x)) nothing_more
    sync_rises skips n x = nothing_more
    sync_rises (gives target calculation) n x = nothing_more
    sync_rises (refines filter) n x = nothing_more
    sync_rises (loads spots target address) n x = nothing_more
    sync_rises (loads_any spots target address range) n x = nothing_more
    sync_rises (stores spots address source) n x = nothing_more
    sync_rises (clears cleared) n x = nothing_more
    sync_rises (locks m) n x = nothing_more
    sync_rises yields n x = nothing_more
    sync_rises (probes m target answer) n x = nothing_more

    filter_class_rises : (filter : Filter) (class : Class) → FilterMayFail filter s class → FilterMayFail filter s' class
    filter_class_rises (usable source) class h = (h.0, (value_rises s s' source s'-is le).pointers.invalid h.1)
    filter_class_rises (numbers_compare op left right) class h = h
    filter_class_rises (pointers_compare equal left right) class h = h

    -- and the classes that it does not exclude
    pub listed_rises : AgreeOnSizes s s' → (action : Action) (class : Class) → IsListed around action s class → IsListed around action s' class
    unfolding IsListed
    listed_rises sizes (gives target calculation) class h = class_rises s s' s-is s'-is le sizes calculation class h
    listed_rises sizes (refines filter) class h = filter_class_rises filter class h
    listed_rises sizes (locks m) class h = h
    listed_rises sizes (unlocks m) class h = h
    listed_rises sizes skips class h = h
    listed_rises sizes (loads spots target address) class h = h
    listed_rises sizes (loads_any spots target address range) class h = h
    listed_rises sizes (stores spots address source) class h = h
    listed_rises sizes (clears cleared) class h = h
    listed_rises sizes yields class h = h
    listed_rises sizes (probes m target answer) class h = h
