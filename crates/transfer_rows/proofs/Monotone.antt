-- The rows are monotone in state and store: one lemma an operation.
use Rattle.std.specs.Prelude.{◌≡◌, ℕ, Bool, true, false, ◌||◌, not, cond, eqb, List, []}
use Rattle.std.specs.Prelude.{◌∷◌, Option, Some, None, refl}
use Rattle.std.proofs.Common.{sym, ap, subst, ◌∙◌, inl, inr}
use Rattle.std.specs.FinMap.{get}
use Rattle.std.proofs.lemmas.Bool.{and_parts, and_from, false≢true, true≢false}
use Rattle.cell_env.specs.tm_lattice.Tables.{IsEntry, IsBelow}
use Rattle.interfere_set.specs.pointer_dom.Values.{Values, IsValues, IsValuesBelow, no_value}
use Rattle.interfere_set.specs.pointer_dom.laws.PointerLaws.{pointers_order}
use Rattle.interfere_set.specs.pointer_dom.laws.ValueLaws.{values_order, values_join}
use Rattle.interfere_set.proofs.low.pointer_dom.Meaning.{meet_greatest, meet_below}
use Rattle.cell_env.specs.Temps.{IsCopyBelow}
use Rattle.cell_env.specs.laws.CellLaws as C
use Rattle.cell_env.specs.tm_lattice.LatticeLaws.{IsOrder}
use Rattle.interfere_set.specs.Stores.{Interferences, IsStore, IsStoreBelow, visible, handed}
use Rattle.interfere_set.specs.laws.Joins.{none_is, none_below, IsOf, all_is, all_upper, all_least}
use Rattle.interfere_set.specs.laws.Hearing.{visible_is, visible_rises, handed_is, handed_rises, cond_is, entry_value}
use Rattle.interfere_set.specs.laws.Hearing.{cond_same}
use Rattle.operator_values.specs.MetValues.{met_values, met_values_is, met_values_fit}
use Rattle.transfer_rows.specs.StateForms.{Temp, Cell, State, IsTempForm, IsCellForm, IsStateForm, IsTempUnder}
use Rattle.transfer_rows.specs.StateForms.{IsCellUnder, IsStateUnder, is_no_value, temp_value, own_value}
use Rattle.transfer_rows.specs.StateForms.{value_of, own_of}
use Rattle.transfer_rows.specs.Actions.{Around}
use Rattle.transfer_rows.specs.Accesses.{is_among, single_of, AreAmong}
use Rattle.transfer_rows.specs.Rows.{given, found_in, loaded, is_stored, new_copy, after_load, after_store, cleared_to}
use Rattle.transfer_rows.specs.Rows.{is_cleared, after_clear, taken, after_lock, after_unlock, after_yield, after_free}
use Rattle.transfer_rows.specs.Rows.{met_where, refined, is_contradicted, refined_from, after_refined}
use Rattle.transfer_rows.proofs.TableChanges.{changed_rises, inserted_rises, changed_is, inserted_is}
use Rattle.transfer_rows.proofs.Steps.{none_is_none, nothing_falls, cond_below, among_cons, among_here, among_there}
use Rattle.transfer_rows.proofs.Steps.{single_rises, dropped_rises, both_joined, stored_rises}
use Rattle.transfer_rows.proofs.Steps.{without_rises}

cell_order : IsOrder IsCellForm IsCellUnder
cell_order = C.cell_order IsValues IsValuesBelow values_order

-- what the values and copies of a state's entries are
temp_value_is : (a : Option Temp) → IsEntry IsTempForm (λ t. ⊥) a → IsValues (temp_value a)
temp_value_is None h = none_is
temp_value_is (Some t) h = h.0

temp_value_rises : (a b : Option Temp) → IsEntry IsTempForm (λ t. ⊥) b → IsBelow IsTempUnder a b → IsValuesBelow (temp_value a) (temp_value b)
temp_value_rises None b b-is le = none_below (temp_value b) (temp_value_is b b-is)
temp_value_rises (Some t) None b-is le = absurd le
temp_value_rises (Some t) (Some u) b-is le = le.value

own_value_is : (a : Option Cell) → IsEntry IsCellForm (λ t. ⊥) a → IsValues (own_value a)
own_value_is None h = none_is
own_value_is (Some t) h = h.0

own_value_rises : (a b : Option Cell) → IsEntry IsCellForm (λ t. ⊥) b → IsBelow IsCellUnder a b → IsValuesBelow (own_value a) (own_value b)
own_value_rises None b b-is le = none_below (own_value b) (own_value_is b b-is)
own_value_rises (Some t) None b-is le = absurd le
own_value_rises (Some t) (Some u) b-is le = le.value

pub value_is : (s : State) (t : ℕ) → IsStateForm s → IsValues (value_of s t)
value_is s t s-is = temp_value_is (get s.temps t) (s-is.temps t)

pub value_rises : (s s' : State) (t : ℕ) → IsStateForm s' → IsStateUnder s s' → IsValuesBelow (value_of s t) (value_of s' t)
value_rises s s' t s-is le = temp_value_rises (get s.temps t) (get s'.temps t) (s-is.temps t) (le.temps t)

pub own_is : (s : State) (x : ℕ) → IsStateForm s → IsValues (own_of s x)
own_is s x s-is = own_value_is (get s.cells x) (s-is.cells x)

own_rises : (s s' : State) (x : ℕ) → IsStateForm s' → IsStateUnder s s' → IsValuesBelow (own_of s x) (own_of s' x)
own_rises s s' x s-is le = own_value_rises (get s.cells x) (get s'.cells x) (s-is.cells x) (le.cells x)

module _ (around : Around) where
  module _ (s s' : State) (s-is : IsStateForm s) (s'-is : IsStateForm s') (le : IsStateUnder s s') where
    cell_is : (x : ℕ) (c : Cell) → get s.cells x ≡ Some c → IsCellForm c
    cell_is x c at = entry_value IsCellForm (λ c. ⊥) s.cells x c s-is.cells at

    cell_is' : (x : ℕ) (c : Cell) → get s'.cells x ≡ Some c → IsCellForm c
    cell_is' x c at = entry_value IsCellForm (λ c. ⊥) s'.cells x c s'-is.cells at

    pub given_rises : (t : ℕ) (v w : Values) (c d : Option ℕ) → IsValues v → IsValues w → IsValuesBelow v w → (is_no_value v ≡ false → IsCopyBelow c d)
        → IsBelow IsStateUnder (given s t v c) (given s' t w d)
    given_rises t v w c d v-is w-is rises copies = cond_below IsStateUnder (is_no_value v) (is_no_value w) _ _ (nothing_falls v w v-is w-is rises) (λ some. record {
      temps = inserted_rises IsTempUnder s.temps s'.temps t record { value = v; copy = c } record { value = w; copy = d } record { value = rises; copy = copies some } le.temps;
      cells = le.cells;
    })

    module _ (store store' : Interferences) (st-is : IsStore store) (st'-is : IsStore store') (grown : IsStoreBelow store store') where
      heard_is : (x : ℕ) (fresh : Bool) → IsValues (cond (around.is_shared x) (visible around.reader fresh x store') no_value)
      heard_is x fresh = cond_is (around.is_shared x) (visible around.reader fresh x store') no_value (visible_is around.reader x fresh store' st'-is.weak) none_is

      found_is : (z : Interferences) → IsStore z → (x : ℕ) (a : Option Cell) → IsEntry IsCellForm (λ c. ⊥) a → IsValues (found_in around z x a)
      found_is z z-is x None h = none_is
      found_is z z-is x (Some c) h = values_join.value c.value (cond (around.is_shared x) (visible around.reader c.fresh x z) no_value) h.0 (cond_is (around.is_shared x) (visible around.reader c.fresh x z) no_value (visible_is around.reader x c.fresh z z-is.weak) none_is)

      found_rises : (x : ℕ) (a b : Option Cell) → IsEntry IsCellForm (λ c. ⊥) a → IsEntry IsCellForm (λ c. ⊥) b → IsBelow IsCellUnder a b → IsValuesBelow (found_in around store x a) (found_in around store' x b)
      found_rises x None b a-is b-is below = none_below (found_in around store' x b) (found_is store' st'-is x b b-is)
      found_rises x (Some c) None a-is b-is below = absurd below
      found_rises x (Some c) (Some d) a-is b-is below =
          both_joined around c.value d.value (cond (around.is_shared x) (visible around.reader c.fresh x store) no_value) (cond (around.is_shared x) (visible around.reader d.fresh x store') no_value) a-is.0 b-is.0
          (cond_is (around.is_shared x) (visible around.reader c.fresh x store) no_value (visible_is around.reader x c.fresh store st-is.weak) none_is) (heard_is x d.fresh) below.value
          (cond_same (around.is_shared x) (visible around.reader c.fresh x store) no_value (visible around.reader d.fresh x store') no_value (visible_rises around.reader x c.fresh d.fresh below.fresh store store' st-is st'-is grown) (values_order.reflexive no_value none_is))

      among_of : (xs : List ℕ) (x : ℕ) → IsOf xs x → is_among xs x ≡ true
      among_of [] x h = absurd h
      among_of (y ∷ xs) x (inl here) = among_here x y xs here
      among_of (y ∷ xs) x (inr there) = among_there x y xs (among_of xs x there)

      of_among : (xs : List ℕ) (x : ℕ) → is_among xs x ≡ true → IsOf xs x
      of_among [] x h = absurd (false≢true h)
      of_among (y ∷ xs) x h = elim (among_cons y x xs h) [ inl here ↦ inl here | inr there ↦ inr (of_among xs x there) ]

      loaded_is : (xs : List ℕ) → IsValues (loaded around s store xs)
      loaded_is xs = all_is (λ x. found_in around store x (get s.cells x)) xs (λ x h. found_is store st-is x (get s.cells x) (s-is.cells x))

      loaded_is' : (xs : List ℕ) → IsValues (loaded around s' store' xs)
      loaded_is' xs = all_is (λ x. found_in around store' x (get s'.cells x)) xs (λ x h. found_is store' st'-is x (get s'.cells x) (s'-is.cells x))

      loaded_rises : (xs ys : List ℕ) → AreAmong xs ys → IsValuesBelow (loaded around s store xs) (loaded around s' store' ys)
      loaded_rises xs ys fewer = all_least (λ x. found_in around store x (get s.cells x)) xs (loaded around s' store' ys) (loaded_is' ys) (λ x h. found_is store st-is x (get s.cells x) (s-is.cells x)) (λ x h.
          values_order.transitive (found_in around store x (get s.cells x)) (found_in around store' x (get s'.cells x)) (loaded around s' store' ys) (found_is store st-is x (get s.cells x) (s-is.cells x)) (found_is store' st'-is x (get s'.cells x) (s'-is.cells x)) (loaded_is' ys)
          (found_rises x (get s.cells x) (get s'.cells x) (s-is.cells x) (s'-is.cells x) (le.cells x))
          (all_upper (λ y. found_in around store' y (get s'.cells y)) ys x (λ y k. found_is store' st'-is y (get s'.cells y) (s'-is.cells y)) (of_among ys x (fewer.among x (among_of xs x h)))))

      stored_falls : (a b : Option Cell) → IsBelow IsCellUnder a b → is_stored b ≡ true → is_stored a ≡ true
      stored_falls None b below h = refl
      stored_falls (Some c) None below h = absurd below
      stored_falls (Some c) (Some d) below h = below.stored h

      or_more : (a b c : Bool) → (b ≡ true → c ≡ true) → (a || b) ≡ true → (a || c) ≡ true
      or_more true b c p h = refl
      or_more false b c p h = p h

      copy_cond : (a b : Bool) (x : ℕ) → (b ≡ true → a ≡ true) → IsCopyBelow (cond a (Some x) None) (cond b (Some x) None)
      copy_cond true true x p = λ z e. e
      copy_cond false true x p = absurd (false≢true (p refl))
      copy_cond a false x p = λ z e. absurd (let h : (let k : Option ℕ = None in k ≡ Some z) = e in cc)

      new_rises : (x : ℕ) → IsCopyBelow (new_copy around s (Some x)) (new_copy around s' (Some x))
      new_rises x = copy_cond (around.is_shared x || is_stored (get s.cells x)) (around.is_shared x || is_stored (get s'.cells x)) x
          (or_more (around.is_shared x) (is_stored (get s'.cells x)) (is_stored (get s.cells x)) (stored_falls (get s.cells x) (get s'.cells x) (le.cells x)))

      new_copies : (a b : Option ℕ) → ((z : ℕ) → b ≡ Some z → a ≡ Some z) → IsCopyBelow (new_copy around s a) (new_copy around s' b)
      new_copies a None rises = λ z e. absurd (let h : (let k : Option ℕ = None in k ≡ Some z) = e in cc)
      new_copies a (Some x) rises = subst (λ k. IsCopyBelow (new_copy around s k) (new_copy around s' (Some x))) (sym (rises x refl)) (new_rises x)

      pub load_rises : (t : ℕ) (xs ys : List ℕ) → AreAmong xs ys → IsBelow IsStateUnder (after_load around s store t xs) (after_load around s' store' t ys)
      load_rises t xs ys fewer = given_rises t (loaded around s store xs) (loaded around s' store' ys) (new_copy around s (single_of around.is_smashed xs)) (new_copy around s' (single_of around.is_smashed ys)) (loaded_is xs) (loaded_is' ys) (loaded_rises xs ys fewer) (copies xs fewer)
        where
          copies : (xs : List ℕ) → AreAmong xs ys → is_no_value (loaded around s store xs) ≡ false → IsCopyBelow (new_copy around s (single_of around.is_smashed xs)) (new_copy around s' (single_of around.is_smashed ys))
          copies [] fewer some = absurd (true≢false (sym none_is_none ∙ some))
          copies (x ∷ xs) fewer some = new_copies (single_of around.is_smashed (x ∷ xs)) (single_of around.is_smashed ys) (λ z e. single_rises around x xs ys z fewer e)

      taken_rises : (m x : ℕ) (c d : Cell) → IsCellForm c → IsCellForm d → IsCellUnder c d → IsCellUnder (taken around store m x c) (taken around store' m x d)
      taken_rises m x c d c-is d-is below = record {
        value = both_joined around c.value d.value (cond (around.is_shared x) (handed around.reader.task m x store) no_value) (cond (around.is_shared x) (handed around.reader.task m x store') no_value) c-is d-is
            (cond_is (around.is_shared x) (handed around.reader.task m x store) no_value (handed_is around.reader.task m x store st-is.sync) none_is)
            (cond_is (around.is_shared x) (handed around.reader.task m x store') no_value (handed_is around.reader.task m x store' st'-is.sync) none_is)
            below.value
            (cond_same (around.is_shared x) (handed around.reader.task m x store) no_value (handed around.reader.task m x store') no_value (handed_rises around.reader.task m x store store' st-is st'-is grown) (values_order.reflexive no_value none_is));
        pending = below.pending;
        fresh = below.fresh;
        stored = below.stored;
      }

      pub lock_rises : (m : ℕ) → IsStateUnder (after_lock around s store m) (after_lock around s' store' m)
      lock_rises m = record {
        temps = dropped_rises around (λ x. true) (λ x. true) s.temps s'.temps (λ x h. h) le.temps;
        cells = changed_rises IsCellUnder _ _ s.cells s'.cells (λ x c d at at' below.
            let t = taken_rises m x c d (cell_is x c at) (cell_is' x d at') below in
            record { value = t.value; pending = t.pending; fresh = λ h. h; stored = t.stored }) le.cells;
      }

      pub free_rises : (m t : ℕ) → IsStateUnder (after_free around s store m t) (after_free around s' store' m t)
      free_rises m t = record {
        temps = inserted_rises IsTempUnder _ _ t _ _ record { value = values_order.reflexive _ none_is; copy = λ x e. e } (dropped_rises around (λ x. true) (λ x. true) s.temps s'.temps (λ x h. h) le.temps);
        cells = changed_rises IsCellUnder _ _ s.cells s'.cells (λ x c d at at' below. taken_rises m x c d (cell_is x c at) (cell_is' x d at') below) le.cells;
      }

    pub store_rises : (v w : Values) (xs ys : List ℕ) → IsValues v → IsValues w → IsValuesBelow v w → AreAmong xs ys → IsBelow IsStateUnder (after_store around s v xs) (after_store around s' w ys)
    store_rises v w [] ys v-is w-is rises fewer = tt
    store_rises v w (x ∷ xs) [] v-is w-is rises fewer = absurd (false≢true (fewer.among x (among_here x x xs refl)))
    store_rises v w (x ∷ xs) (y ∷ ys) v-is w-is rises fewer = record {
      temps = dropped_rises around (is_among (x ∷ xs)) (is_among (y ∷ ys)) s.temps s'.temps fewer.among le.temps;
      cells = changed_rises IsCellUnder _ _ s.cells s'.cells (λ key c d at at' below. stored_rises around v w v-is w-is rises key c d (cell_is key c at) (cell_is' key d at') below x xs (y ∷ ys) fewer) le.cells;
    }

    cleared_rises : (a : Option Values) (c d : Cell) → ((v : Values) → a ≡ Some v → IsValues v) → IsCellUnder c d → IsCellUnder (cleared_to a c) (cleared_to a d)
    cleared_rises None c d is below = below
    cleared_rises (Some v) c d is below = record { value = values_order.reflexive v (is v refl); pending = below.pending; fresh = below.fresh; stored = λ h. h }

    pub clear_rises : (cleared : ℕ → Option Values) → ((x : ℕ) (v : Values) → cleared x ≡ Some v → IsValues v) → IsStateUnder (after_clear s cleared) (after_clear s' cleared)
    clear_rises cleared is = record {
      temps = dropped_rises around (λ x. is_cleared (cleared x)) (λ x. is_cleared (cleared x)) s.temps s'.temps (λ x h. h) le.temps;
      cells = changed_rises IsCellUnder _ _ s.cells s'.cells (λ x c d at at' below. cleared_rises (cleared x) c d (is x) below) le.cells;
    }

    pub unlock_rises : (m : ℕ) → IsStateUnder (after_unlock s m) (after_unlock s' m)
    unlock_rises m = record {
      temps = le.temps;
      cells = changed_rises IsCellUnder _ _ s.cells s'.cells (λ x c d at at' below. record { value = below.value; pending = without_rises around c.pending d.pending m below.pending; fresh = below.fresh; stored = below.stored }) le.cells;
    }

    pub yield_rises : IsStateUnder (after_yield s) (after_yield s')
    yield_rises = record { temps = le.temps; cells = changed_rises IsCellUnder _ _ s.cells s'.cells (λ x c d at at' below. record { value = below.value; pending = below.pending; fresh = λ h. h; stored = below.stored }) le.cells }

  met_rises : (a b v w : Values) → IsValues a → IsValues b → IsValues v → IsValues w → IsValuesBelow a b → IsValuesBelow v w → IsValuesBelow (met_values a v) (met_values b w)
  met_rises a b v w a-is b-is v-is w-is p q =
      let m = met_values_is a v in
      let n = met_values_is b w in
      let parts = meet_below a.pointers v.pointers (met_values a v).pointers (met_values_fit a v a-is v-is) m.pointers in
      record {
        numbers = record { within = λ k h. let both = m.numbers.sound k h in n.numbers.complete k (p.numbers.within k both.0, q.numbers.within k both.1) };
        pointers = meet_greatest b.pointers w.pointers (met_values b w).pointers (met_values a v).pointers (met_values_fit a v a-is v-is) n.pointers
            (pointers_order.transitive (met_values a v).pointers a.pointers b.pointers (met_values_fit a v a-is v-is) a-is b-is parts.0 p.pointers)
            (pointers_order.transitive (met_values a v).pointers v.pointers w.pointers (met_values_fit a v a-is v-is) v-is w-is parts.1 q.pointers);
      }

  met_left : (a v : Values) → IsValues a → IsValues v → IsValuesBelow (met_values a v) a
  met_left a v a-is v-is =
      let m = met_values_is a v in
      record { numbers = record { within = λ k h. (m.numbers.sound k h).0 }; pointers = (meet_below a.pointers v.pointers (met_values a v).pointers (met_values_fit a v a-is v-is) m.pointers).0 }

  met_where_is : (a : Option ℕ) (v : Values) (x : ℕ) (c : Cell) → IsValues v → IsCellForm c → IsCellForm (met_where a v x c)
  met_where_is None v x c v-is c-is = c-is
  met_where_is (Some y) v x c v-is c-is = by_case (eqb x y)
    where
      by_case : (b : Bool) → IsCellForm (cond b (record c { value = met_values c.value v }) c)
      by_case true = met_values_fit c.value v c-is v-is
      by_case false = c-is

  met_where_left : (a : Option ℕ) (v : Values) (x : ℕ) (c : Cell) → IsValues v → IsCellForm c → IsCellUnder (met_where a v x c) c
  met_where_left None v x c v-is c-is = cell_order.reflexive c c-is
  met_where_left (Some y) v x c v-is c-is = by_case (eqb x y)
    where
      by_case : (b : Bool) → IsCellUnder (cond b (record c { value = met_values c.value v }) c) c
      by_case true = let same = cell_order.reflexive c c-is in record { value = met_left c.value v c-is v-is; pending = same.pending; fresh = same.fresh; stored = same.stored }
      by_case false = cell_order.reflexive c c-is

  met_where_rises : (a b : Option ℕ) (v w : Values) (x : ℕ) (c d : Cell) → IsCellForm c → IsCellForm d → IsValues v → IsValues w → IsCopyBelow a b → IsValuesBelow v w → IsCellUnder c d
      → IsCellUnder (met_where a v x c) (met_where b w x d)
  met_where_rises a None v w x c d c-is d-is v-is w-is copies le below =
      cell_order.transitive (met_where a v x c) c d (met_where_is a v x c v-is c-is) c-is d-is (met_where_left a v x c v-is c-is) below
  met_where_rises a (Some y) v w x c d c-is d-is v-is w-is copies le below =
      subst (λ k. IsCellUnder (met_where k v x c) (met_where (Some y) w x d)) (sym (copies y refl)) (by_case (eqb x y))
    where
      by_case : (b : Bool) → IsCellUnder (cond b (record c { value = met_values c.value v }) c) (cond b (record d { value = met_values d.value w }) d)
      by_case true = record { value = met_rises c.value d.value v w c-is d-is v-is w-is below.value le; pending = below.pending; fresh = below.fresh; stored = below.stored }
      by_case false = below

  pub refined_is : (s : State) (t : ℕ) (v : Values) (a : Option ℕ) → IsStateForm s → IsValues v → IsStateForm (refined s t v a)
  refined_is s t v a s-is v-is = record {
    temps = inserted_is IsTempForm (λ t. ⊥) s.temps t record { value = v; copy = a } v-is (λ n. n) s-is.temps;
    cells = changed_is IsCellForm (λ c. ⊥) (met_where a v) s.cells (λ x c at c-is. (met_where_is a v x c v-is c-is, λ n. n)) s-is.cells;
  }

  refined_rises : (s s' : State) (t : ℕ) (v w : Values) (a b : Option ℕ) → IsStateForm s → IsStateForm s' → IsStateUnder s s' → IsValues v → IsValues w → IsValuesBelow v w → IsCopyBelow a b
      → IsStateUnder (refined s t v a) (refined s' t w b)
  refined_rises s s' t v w a b s-is s'-is le v-is w-is rises copies = record {
    temps = inserted_rises IsTempUnder s.temps s'.temps t record { value = v; copy = a } record { value = w; copy = b } record { value = rises; copy = copies } le.temps;
    cells = changed_rises IsCellUnder (met_where a v) (met_where b w) s.cells s'.cells (λ x c d at at' below.
        met_where_rises a b v w x c d (entry_value IsCellForm (λ c. ⊥) s.cells x c s-is.cells at) (entry_value IsCellForm (λ c. ⊥) s'.cells x d s'-is.cells at') v-is w-is copies rises below) le.cells;
  }

  contradicted_falls : (s s' : State) (a b : Option ℕ) → IsStateForm s → IsStateForm s' → IsStateUnder s s' → IsCopyBelow a b → is_contradicted around s' b ≡ true → is_contradicted around s a ≡ true
  contradicted_falls s s' a None s-is s'-is le copies h = absurd (false≢true h)
  contradicted_falls s s' a (Some x) s-is s'-is le copies h =
      let parts : (not (around.is_shared x) ≡ true) × (is_no_value (own_of s' x) ≡ true) = and_parts _ _ h in
      ap (is_contradicted around s) (copies x refl) ∙ and_from _ _ parts.0 (nothing_falls (own_of s x) (own_of s' x) (own_is s x s-is) (own_is s' x s'-is) (own_rises s s' x s'-is le) parts.1)

  or_falls : (a b c d : Bool) → (b ≡ true → a ≡ true) → (d ≡ true → c ≡ true) → (b || d) ≡ true → (a || c) ≡ true
  or_falls true b c d p q h = refl
  or_falls false true c d p q h = absurd (false≢true (p refl))
  or_falls false false c d p q h = q h

  from_rises : (s s' : State) (t : ℕ) (v w : Values) (a b : Option Temp) → IsStateForm s → IsStateForm s' → IsStateUnder s s' → IsValues v → IsValues w → IsValuesBelow v w → IsBelow IsTempUnder a b
      → IsBelow IsStateUnder (refined_from around s t v a) (refined_from around s' t w b)
  from_rises s s' t v w None b s-is s'-is le v-is w-is rises below = tt
  from_rises s s' t v w (Some e) None s-is s'-is le v-is w-is rises below = absurd below
  from_rises s s' t v w (Some e) (Some f) s-is s'-is le v-is w-is rises below =
      let grown = refined_rises s s' t v w e.copy f.copy s-is s'-is le v-is w-is rises below.copy in
      cond_below IsStateUnder (is_no_value v || is_contradicted around (refined s t v e.copy) e.copy) (is_no_value w || is_contradicted around (refined s' t w f.copy) f.copy) _ _
      (or_falls (is_no_value v) (is_no_value w) (is_contradicted around (refined s t v e.copy) e.copy) (is_contradicted around (refined s' t w f.copy) f.copy) (nothing_falls v w v-is w-is rises)
      (contradicted_falls (refined s t v e.copy) (refined s' t w f.copy) e.copy f.copy (refined_is s t v e.copy s-is v-is) (refined_is s' t w f.copy s'-is w-is) grown below.copy))
      (λ some. grown)

  pub refine_rises : (s s' : State) (t : ℕ) (v w : Values) → IsStateForm s → IsStateForm s' → IsStateUnder s s' → IsValues v → IsValues w → IsValuesBelow v w
      → IsBelow IsStateUnder (after_refined around s t v) (after_refined around s' t w)
  refine_rises s s' t v w s-is s'-is le v-is w-is rises = from_rises s s' t v w (get s.temps t) (get s'.temps t) s-is s'-is le v-is w-is rises (le.temps t)
