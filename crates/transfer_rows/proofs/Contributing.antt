-- What an operation adds is a store, rises with the state, and has at each entry what the rows say.
use Rattle.std.specs.Prelude.{◌≡◌, ◌≢◌, ℕ, Bool, true, false, ◌&&◌, ◌||◌, not, cond, eqb, List, [], ◌∷◌, map, Option, Some, None, refl}
use Rattle.std.proofs.Common.{sym, ap, subst, ◌∙◌, inl, inr, ⊎_elim}
use Rattle.std.specs.Ordering.{nat_cmp}
use Rattle.std.proofs.lemmas.Bool.{cases_eq, false≢true, true≢false, eqb-true, eq-eqb, ne_eqb}
use Rattle.std.specs.FinMap as tables
use Rattle.std.specs.FinMap.{get, insert, len, keys, entries, find, get-empty, get-entries, empty_of_len, len-empty}
use Rattle.cell_env.specs.tm_lattice.Tables.{Table, IsTable, IsEntry, IsBelow, IsTableBelow}
use Rattle.cell_env.specs.tm_lattice.laws.Keys.{find-here, find-there}
use Rattle.cell_env.specs.tm_lattice.laws.TableLaws.{same_table, get-insert_here, get-insert_there}
use Rattle.interfere_set.specs.pointer_dom.Values.{Values, IsValues, IsValuesBelow, no_value}
use Rattle.interfere_set.specs.Stores.{Nested, Interferences, HasNoEntry, IsNested, IsNestedBelow, IsStore, IsStoreBelow, value_or_none, left_in}
use Rattle.interfere_set.specs.laws.Joins.{none_is}
use Rattle.interfere_set.specs.laws.Hearing.{cond_is}
use Rattle.transfer_rows.specs.StateForms.{Cell, State, IsCellForm, IsStateForm, IsCellUnder, IsStateUnder, is_no_value, value_of}
use Rattle.transfer_rows.specs.Actions.{Around, Spot, Action, skips, gives, refines, loads, loads_any, stores, clears, locks, unlocks, yields, probes}
use Rattle.transfer_rows.specs.Accesses.{is_among, AreAmong, targets_at}
use Rattle.transfer_rows.specs.Rows.{holds}
use Rattle.transfer_rows.specs.Reports.{targets_of, left_by, weak_of, sync_of}
use Rattle.transfer_rows.specs.Contributions.{cells_added, nested_under, added, at_task, entry_at}
use Rattle.transfer_rows.proofs.TableChanges.{inserted_rises, inserted_is}
use Rattle.transfer_rows.proofs.Steps.{no_value_is, none_is_none, nothing_falls, among_here, among_there, among_cons}
use Rattle.transfer_rows.proofs.Monotone.{value_is}
use Rattle.transfer_rows.proofs.RowsRise.{target_rises, weak_rises, sync_rises}
use Rattle.transfer_rows.proofs.CoverSteps.{none_some}

-- ---- tables of cells

abbrev shown : Bool → Values → Option Values
shown b v = cond (b && not (is_no_value v)) (Some v) None

module _ (value : ℕ → Values) where
  none_shown : (b : Bool) (v : Values) → is_no_value v ≡ true → shown b v ≡ None
  none_shown true v none = ap (λ n. cond (not n) (Some v) None) none
  none_shown false v none = refl

  some_shown : (v : Values) → is_no_value v ≡ false → shown true v ≡ Some v
  some_shown v some = ap (λ n. cond (not n) (Some v) None) some

  other_among : (x y : ℕ) (xs : List ℕ) → y ≢ x → is_among (x ∷ xs) y ≡ is_among xs y
  other_among x y xs differ = ap (λ b. b || is_among xs y) (ne_eqb y x differ)

  pub get-added : (xs : List ℕ) (y : ℕ) → get (cells_added value xs) y ≡ shown (is_among xs y) (value y)
  get-added [] y = get-empty nat_cmp y
  get-added (x ∷ xs) y = by_test (is_no_value (value x)) refl (get-added xs y)
    where
      by_test : (b : Bool) → is_no_value (value x) ≡ b → get (cells_added value xs) y ≡ shown (is_among xs y) (value y) → get (cond b (cells_added value xs) (insert (cells_added value xs) x (value x))) y ≡ shown (is_among (x ∷ xs) y) (value y)
      by_test true none rest = elim (cases_eq y x) [
        | inl same ↦ (let y_none : is_no_value (value y) ≡ true = ap (λ k. is_no_value (value k)) same ∙ none in rest ∙ none_shown (is_among xs y) (value y) y_none ∙ sym (none_shown (is_among (x ∷ xs) y) (value y) y_none))
        | inr differ ↦ rest ∙ ap (λ b. shown b (value y)) (sym (other_among x y xs differ))
      ]
      by_test false some rest = elim (cases_eq y x) [
        | inl same ↦
            get-insert_here (cells_added value xs) x (value x) y same ∙ ap (λ k. Some (value k)) (sym same)
            ∙ sym (ap (λ b. shown b (value y)) (among_here y x xs same) ∙ some_shown (value y) (ap (λ k. is_no_value (value k)) same ∙ some))
        | inr differ ↦ get-insert_there (cells_added value xs) x (value x) y differ ∙ rest ∙ ap (λ b. shown b (value y)) (sym (other_among x y xs differ))
      ]

  -- each entry is a value that is not nothing
  pub cells_are : (xs : List ℕ) → ((x : ℕ) → IsValues (value x)) → IsTable IsValues (λ v. v ≡ no_value) (cells_added value xs)
  cells_are xs is y = subst (IsEntry IsValues (λ v. v ≡ no_value)) (sym (get-added xs y)) (by_tests (is_among xs y) (is_no_value (value y)) refl)
    where
      by_tests : (a b : Bool) → is_no_value (value y) ≡ b → IsEntry IsValues (λ v. v ≡ no_value) (cond (a && not b) (Some (value y)) None)
      by_tests false b e = tt
      by_tests true true e = tt
      by_tests true false e = (is y, λ none. true≢false (sym (ap is_no_value none ∙ none_is_none) ∙ e))

  -- what stands in the entry, where nothing stands outside of the list
  pub added_at : (xs : List ℕ) (y : ℕ) → (is_among xs y ≡ false → value y ≡ no_value) → value_or_none (get (cells_added value xs) y) ≡ value y
  added_at xs y outside = ap value_or_none (get-added xs y) ∙ by_tests (is_among xs y) (is_no_value (value y)) refl refl
    where
      by_tests : (a b : Bool) → is_among xs y ≡ a → is_no_value (value y) ≡ b → value_or_none (cond (a && not b) (Some (value y)) None) ≡ value y
      by_tests true false e f = refl
      by_tests true true e f = sym (no_value_is (value y) f)
      by_tests false b e f = sym (outside e)

pub cells_rise : (value value' : ℕ → Values) (xs ys : List ℕ) → AreAmong xs ys → ((x : ℕ) → IsValues (value x)) → ((x : ℕ) → IsValues (value' x)) → ((x : ℕ) → IsValuesBelow (value x) (value' x))
    → IsTableBelow IsValuesBelow (cells_added value xs) (cells_added value' ys)
cells_rise value value' xs ys fewer is is' rises y =
    subst (λ a. IsBelow IsValuesBelow a (get (cells_added value' ys) y)) (sym (get-added value xs y))
    (subst (IsBelow IsValuesBelow (shown (is_among xs y) (value y))) (sym (get-added value' ys y))
    (by_tests (is_among xs y) (is_no_value (value y)) (is_among ys y) (is_no_value (value' y)) (fewer.among y) (nothing_falls (value y) (value' y) (is y) (is' y) (rises y))))
  where
    by_tests : (a b c d : Bool) → (a ≡ true → c ≡ true) → (d ≡ true → b ≡ true) → IsBelow IsValuesBelow (cond (a && not b) (Some (value y)) None) (cond (c && not d) (Some (value' y)) None)
    by_tests false b c d more falls = tt
    by_tests true true c d more falls = tt
    by_tests true false false d more falls = absurd (false≢true (more refl))
    by_tests true false true true more falls = absurd (false≢true (falls refl))
    by_tests true false true false more falls = rises y

-- ---- under a task and a set of mutexes

none_under : {V : Type 0} (leq : V → V → Type 0) (t : Table V) → IsTableBelow leq tables.empty t
none_under leq t y = subst (λ a. IsBelow leq a (get t y)) (sym (get-empty nat_cmp y)) tt

-- a table below an empty one is empty
empty_falls : (c d : Table Values) → IsTableBelow IsValuesBelow c d → eqb (len d) 0 ≡ true → eqb (len c) 0 ≡ true
empty_falls c d le none =
    let d_none : d ≡ tables.empty = empty_of_len d (eqb-true (len d) 0 none) in
    let c_none : c ≡ tables.empty = same_table c tables.empty (λ y. at_none y (get c y) (subst (λ t. IsBelow IsValuesBelow (get c y) (get t y)) d_none (le y)) ∙ sym (get-empty nat_cmp y)) in
    eq-eqb (len c) 0 (ap len c_none ∙ len-empty nat_cmp Values)
  where
    below_none : (a b : Option Values) → b ≡ None → IsBelow IsValuesBelow a b → a ≡ None
    below_none None b e h = refl
    below_none (Some v) None e h = absurd h
    below_none (Some v) (Some w) e h = absurd (none_some (Some w) w e refl)

    at_none : (y : ℕ) (a : Option Values) → IsBelow IsValuesBelow a (get (tables.empty {X = Values} {R = nat_cmp}) y) → a ≡ None
    at_none y a h = below_none a (get tables.empty y) (get-empty nat_cmp y) h

module _ (task set : ℕ) where
  pub nested_rises : (c d : Table Values) → IsTableBelow IsValuesBelow c d → IsNestedBelow (nested_under task set c) (nested_under task set d)
  nested_rises c d le = by_tests (eqb (len c) 0) (eqb (len d) 0) (empty_falls c d le)
    where
      by_tests : (a b : Bool) → (b ≡ true → a ≡ true)
          → IsNestedBelow (cond a tables.empty (insert tables.empty task (insert tables.empty set c))) (cond b tables.empty (insert tables.empty task (insert tables.empty set d)))
      by_tests true b falls = none_under (IsTableBelow (IsTableBelow IsValuesBelow)) _
      by_tests false true falls = absurd (false≢true (falls refl))
      by_tests false false falls =
          inserted_rises (IsTableBelow (IsTableBelow IsValuesBelow)) tables.empty tables.empty task (insert tables.empty set c) (insert tables.empty set d)
          (inserted_rises (IsTableBelow IsValuesBelow) tables.empty tables.empty set c d le (none_under (IsTableBelow IsValuesBelow) tables.empty)) (none_under (IsTableBelow (IsTableBelow IsValuesBelow)) tables.empty)

  no_entry : {V : Type 0} (is_value nothing : V → Type 0) → IsTable is_value nothing tables.empty
  no_entry is_value nothing y = subst (IsEntry is_value nothing) (sym (get-empty nat_cmp y)) tt

  not_empty : {V : Type 0} (k : ℕ) (v : V) → (let t : Table V = insert tables.empty k v in t ≡ tables.empty) → ⊥
  not_empty {V} k v e = none_some (get (tables.empty {X = V} {R = nat_cmp}) k) v (get-empty nat_cmp k) (sym (ap (λ t. get t k) e) ∙ get-insert_here tables.empty k v k refl)

  pub nested_is : (c : Table Values) → IsTable IsValues (λ v. v ≡ no_value) c → IsNested (nested_under task set c)
  nested_is c c-is = by_test (eqb (len c) 0) refl
    where
      by_test : (b : Bool) → eqb (len c) 0 ≡ b → IsNested (cond b tables.empty (insert tables.empty task (insert tables.empty set c)))
      by_test true e = no_entry _ HasNoEntry
      by_test false e =
          inserted_is _ HasNoEntry tables.empty task (insert tables.empty set c)
          (inserted_is (IsTable IsValues (λ v. v ≡ no_value)) HasNoEntry tables.empty set c c-is (λ none. true≢false (sym (eq-eqb (len c) 0 (ap len none ∙ len-empty nat_cmp Values)) ∙ e)) (no_entry (IsTable IsValues (λ v. v ≡ no_value)) HasNoEntry))
          (not_empty set c) (no_entry _ HasNoEntry)

  -- what stands in the entries
  none_at : (n : Nested) → n ≡ tables.empty → (j l x : ℕ) → entry_at n j l x ≡ no_value
  none_at n e j l x = ap (at_task l x) (ap (λ t. get t j) e ∙ get-empty nat_cmp j)

  pub nested_at : (c : Table Values) (j l x : ℕ) → entry_at (nested_under task set c) j l x ≡ cond (eqb j task && eqb l set) (value_or_none (get c x)) no_value
  nested_at c j l x = by_test (eqb (len c) 0) refl
    where
      none_in : (b : Bool) → len c ≡ 0 → cond b (value_or_none (get c x)) no_value ≡ no_value
      none_in true e = ap (λ t. value_or_none (get t x)) (empty_of_len c e) ∙ ap value_or_none (get-empty nat_cmp x)
      none_in false e = refl

      by_test : (b : Bool) → eqb (len c) 0 ≡ b → entry_at (cond b tables.empty (insert tables.empty task (insert tables.empty set c))) j l x ≡ cond (eqb j task && eqb l set) (value_or_none (get c x)) no_value
      by_test true e = none_at tables.empty refl j l x ∙ sym (none_in (eqb j task && eqb l set) (eqb-true (len c) 0 e))
      by_test false e = elim (cases_eq j task) [
        | inl same ↦ ap (at_task l x) (get-insert_here tables.empty task (insert tables.empty set c) j same) ∙ elim (cases_eq l set) [
          | inl here ↦ ap (left_in x) (get-insert_here tables.empty set c l here) ∙ sym (ap (λ b. cond (b && eqb l set) (value_or_none (get c x)) no_value) (eq-eqb j task same) ∙ ap (λ b. cond b (value_or_none (get c x)) no_value) (eq-eqb l set here))
          | inr there ↦ ap (left_in x) (get-insert_there tables.empty set c l there ∙ get-empty nat_cmp l) ∙ sym (ap (λ b. cond (b && eqb l set) (value_or_none (get c x)) no_value) (eq-eqb j task same) ∙ ap (λ b. cond b (value_or_none (get c x)) no_value) (ne_eqb l set there))
        ]
        | inr differ ↦ ap (at_task l x) (get-insert_there tables.empty task (insert tables.empty set c) j differ ∙ get-empty nat_cmp j) ∙ sym (ap (λ b. cond (b && eqb l set) (value_or_none (get c x)) no_value) (ne_eqb j task differ))
      ]

-- ---- the cells of a state

found_among : (es : List (ℕ × Cell)) (y : ℕ) (c : Cell) → find nat_cmp y es ≡ Some c → is_among (map (λ e. e.0) es) y ≡ true
found_among [] y c e = absurd (none_some None c refl e)
found_among (e ∷ es) y c at = elim (cases_eq y e.0) [
  | inl same ↦ among_here y e.0 (map (λ k. k.0) es) same
  | inr differ ↦ among_there y e.0 (map (λ k. k.0) es) (found_among es y c (sym (find-there y e es differ) ∙ at))
]

among_found : (es : List (ℕ × Cell)) (y : ℕ) → is_among (map (λ e. e.0) es) y ≡ true → (c : Cell) × (find nat_cmp y es ≡ Some c)
among_found [] y h = absurd (false≢true h)
among_found (e ∷ es) y h = elim (cases_eq y e.0) [
  | inl same ↦ (e.1, find-here y e es same)
  | inr differ ↦ (let f = among_found es y (⊎_elim (λ here. absurd (differ here)) (λ there. there) (among_cons e.0 y (map (λ k. k.0) es) h)) in (f.0, find-there y e es differ ∙ f.1))
]

keys_rise : (s s' : State) → IsStateUnder s s' → AreAmong (keys s.cells) (keys s'.cells)
keys_rise s s' le = record {
  among = λ y h.
      (let f = among_found (entries s.cells) y h in
      let at : get s.cells y ≡ Some f.0 = get-entries s.cells y ∙ f.1 in
      let above = above_some y f.0 (get s'.cells y) refl (subst (λ a. IsBelow IsCellUnder a (get s'.cells y)) at (le.cells y)) in
      found_among (entries s'.cells) y above.0 (sym (get-entries s'.cells y) ∙ above.1));
}
  where
    above_some : (y : ℕ) (c : Cell) (a : Option Cell) → get s'.cells y ≡ a → IsBelow IsCellUnder (Some c) a → (d : Cell) × (get s'.cells y ≡ Some d)
    above_some y c None e h = absurd h
    above_some y c (Some d) e h = (d, e)

module _ (around : Around) where
  left_is : (m : ℕ) (a : Option Cell) → IsEntry IsCellForm (λ c. ⊥) a → IsValues (left_by m a)
  left_is m None h = none_is
  left_is m (Some c) h = cond_is _ c.value no_value h.0 none_is

  module _ (s : State) (s-is : IsStateForm s) where
    pub weak_is : (spots : List Spot) (address source x : ℕ) → IsValues (weak_of around (stores spots address source) s x)
    unfolding weak_of
    weak_is spots address source x = cond_is _ (value_of s source) no_value (value_is s source s-is) none_is

    pub sync_is : (m n x : ℕ) → IsValues (sync_of around (unlocks m) s n x)
    unfolding sync_of
    sync_is m n x = cond_is _ (left_by m (get s.cells x)) no_value (left_is m (get s.cells x) (s-is.cells x)) none_is

    nothing_is : IsNested tables.empty
    nothing_is = no_entry 0 0 _ HasNoEntry

    nothing_added : IsStore (record { weak = tables.empty; sync = tables.empty })
    nothing_added = record { weak = nothing_is; sync = nothing_is }

    pub added_is : (action : Action) → IsStore (added around action s)
    unfolding added targets_of
    added_is (stores spots address source) = record {
      weak = nested_is around.reader.task around.reader.held _ (cells_are (weak_of around (stores spots address source) s) (targets_of (stores spots address source) s) (weak_is spots address source));
      sync = nothing_is;
    }
    added_is (unlocks m) = record { weak = nothing_is; sync = nested_is around.reader.task m _ (cells_are (sync_of around (unlocks m) s m) (keys s.cells) (sync_is m m)) }
    added_is skips = nothing_added
    added_is (gives target calculation) = nothing_added
    added_is (refines filter) = nothing_added
    added_is (loads spots target address) = nothing_added
    added_is (loads_any spots target address range) = nothing_added
    added_is (clears cleared) = nothing_added
    added_is (locks m) = nothing_added
    added_is yields = nothing_added
    added_is (probes m target answer) = nothing_added

  module _ (s s' : State) (s-is : IsStateForm s) (s'-is : IsStateForm s') (le : IsStateUnder s s') where
    nothing_under : (n : Nested) → IsNestedBelow tables.empty n
    nothing_under n = none_under (IsTableBelow (IsTableBelow IsValuesBelow)) n

    nothing_more : (store : Interferences) → IsStoreBelow (record { weak = tables.empty; sync = tables.empty }) store
    nothing_more store = record { weak = nothing_under store.weak; sync = nothing_under store.sync }

    pub added_rises : (action : Action) → IsStoreBelow (added around action s) (added around action s')
    unfolding added
    added_rises (stores spots address source) = record {
      weak = nested_rises around.reader.task around.reader.held _ _
          (cells_rise (weak_of around (stores spots address source) s) (weak_of around (stores spots address source) s') _ _ (target_rises around s s' s-is s'-is le (stores spots address source)) (weak_is s s-is spots address source)
          (weak_is s' s'-is spots address source) (weak_rises around s s' s-is s'-is le (stores spots address source)));
      sync = nothing_under tables.empty;
    }
    added_rises (unlocks m) = record {
      weak = nothing_under tables.empty;
      sync = nested_rises around.reader.task m _ _
          (cells_rise (sync_of around (unlocks m) s m) (sync_of around (unlocks m) s' m) _ _ (keys_rise s s' le) (sync_is s s-is m m) (sync_is s' s'-is m m) (sync_rises around s s' s-is s'-is le (unlocks m) m));
    }
    added_rises skips = nothing_more _
    added_rises (gives target calculation) = nothing_more _
    added_rises (refines filter) = nothing_more _
    added_rises (loads spots target address) = nothing_more _
    added_rises (loads_any spots target address range) = nothing_more _
    added_rises (clears cleared) = nothing_more _
    added_rises (locks m) = nothing_more _
    added_rises yields = nothing_more _
    added_rises (probes m target answer) = nothing_more _

  -- what stands in the entries of the task
  and_false : (a b : Bool) → b ≡ false → (a && b) ≡ false
  and_false true b h = h
  and_false false b h = refl

  pub weak_added : (spots : List Spot) (address source : ℕ) (s : State) (j l x : ℕ)
      → entry_at (added around (stores spots address source) s).weak j l x ≡ cond (eqb j around.reader.task && eqb l around.reader.held) (weak_of around (stores spots address source) s x) no_value
  unfolding added weak_of targets_of
  weak_added spots address source s j l x =
      let value = weak_of around (stores spots address source) s in
      let xs = targets_at spots (value_of s address).pointers in
      nested_at around.reader.task around.reader.held (cells_added value xs) j l x
      ∙ ap (λ v. cond (eqb j around.reader.task && eqb l around.reader.held) v no_value) (added_at value xs x (λ none. ap (λ b. cond b (value_of s source) no_value) (and_false (around.is_shared x) (is_among xs x) none)))

  pub sync_added : (m : ℕ) (s : State) (j n x : ℕ) → entry_at (added around (unlocks m) s).sync j n x ≡ cond (eqb j around.reader.task && eqb n m) (sync_of around (unlocks m) s m x) no_value
  unfolding added sync_of
  sync_added m s j n x =
      let value = sync_of around (unlocks m) s m in
      nested_at around.reader.task m (cells_added value (keys s.cells)) j n x
      ∙ ap (λ v. cond (eqb j around.reader.task && eqb n m) v no_value) (added_at value (keys s.cells) x (λ none. at_none none))
    where
      cond_none : (b : Bool) (v : Values) → v ≡ no_value → cond b v no_value ≡ no_value
      cond_none true v e = e
      cond_none false v e = refl

      absent : (a : Option Cell) → get s.cells x ≡ a → is_among (keys s.cells) x ≡ false → a ≡ None
      absent None e none = refl
      absent (Some c) e none = absurd (true≢false (sym (found_among (entries s.cells) x c (sym (get-entries s.cells x) ∙ e)) ∙ none))

      at_none : is_among (keys s.cells) x ≡ false → sync_of around (unlocks m) s m x ≡ no_value
      at_none none = cond_none (around.is_shared x && (eqb m m && holds around m)) (left_by m (get s.cells x)) (ap (left_by m) (absent (get s.cells x) refl none))
