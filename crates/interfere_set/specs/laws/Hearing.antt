-- What a task sees and is handed: it rises with the store and as freshness falls, and lies above each entry.
use Rattle.std.specs.Prelude.{◌≡◌, ℕ, Bool, true, false, ◌&&◌, ◌||◌, not, cond, eqb, leb, Option, Some, None, IsTrue}
use Rattle.std.specs.Prelude.{refl}
use Rattle.std.proofs.Common.{ap, subst, ◌∙◌}
use Rattle.std.specs.FinMap.{get, entries}
use Rattle.std.proofs.lemmas.Bool.{and_parts, and_from, false≢true}
use Rattle.tm_lattice.specs.Tables.{Table, IsEntry, IsTable, IsBelow, IsTableBelow}
use Rattle.pointer_dom.specs.Values.{Values, IsValues, IsValuesBelow, no_value}
use Rattle.pointer_dom.specs.laws.ValueLaws.{values_order}
use Rattle.interfere_set.specs.Stores.{Nested, Interferences, HasNoEntry, IsNested, IsStore, IsStoreBelow}
use Rattle.interfere_set.specs.Stores.{value_or_none, joined_all, are_apart, Reader, is_visible, seen_of_task}
use Rattle.interfere_set.specs.Stores.{visible, left_in, left_at, handed}
use Rattle.interfere_set.specs.laws.Joins.{none_is, none_below, IsOf, all_is, all_upper, all_least, entry_of, of_entry}

-- what lies above an entry is an entry
pub entry_above : {V : Type 0} (leq : V → V → Type 0) (v : V) (b : Option V) → IsBelow leq (Some v) b → (w : V)
    × (b ≡ Some w) × leq v w
entry_above leq v None le = absurd le
entry_above leq v (Some w) le = (w, refl, le)

pub entry_value : {V : Type 0} (is_value nothing : V → Type 0) (t : Table V) (k : ℕ) (v : V)
    → IsTable is_value nothing t → get t k ≡ Some v → is_value v
entry_value is_value nothing t k v is found = (subst (IsEntry is_value nothing) found (is k)).0

-- joins over the entries of tables rise with the tables
module _ {V : Type 0} (leq : V → V → Type 0) (f g : ℕ × V → Values) (s t : Table V) where
  pub entries_rise : ((e : ℕ × V) → IsOf (entries s) e → IsValues (f e))
      → ((e : ℕ × V) → IsOf (entries t) e → IsValues (g e))
      → ((k : ℕ) (v w : V) → get s k ≡ Some v → get t k ≡ Some w → leq v w → IsValuesBelow (f (k, v)) (g (k, w)))
      → IsTableBelow leq s t
      → IsValuesBelow (joined_all f (entries s)) (joined_all g (entries t))
  entries_rise f-is g-is rises below = all_least f (entries s) (joined_all g (entries t))
      (all_is g (entries t) g-is) f-is each
    where
      each : (e : ℕ × V) → IsOf (entries s) e → IsValuesBelow (f e) (joined_all g (entries t))
      each e h =
          let found = of_entry s e h in
          let above : (w : V) × (get t e.0 ≡ Some w) × leq e.1 w = entry_above leq e.1 (get t e.0)
          (subst (λ a. IsBelow leq a (get t e.0)) found (below e.0)) in
          let there = entry_of t e.0 above.0 above.1 in
          values_order.transitive (f e) (g (e.0, above.0)) (joined_all g (entries t)) (f-is e h)
          (g-is (e.0, above.0) there) (all_is g (entries t) g-is)
          (rises e.0 e.1 above.0 found above.1 above.2) (all_upper g (entries t) (e.0, above.0) g-is there)

abbrev pub IsCellTable : Table Values → Type 0
IsCellTable t = IsTable IsValues (λ v. v ≡ no_value) t

abbrev pub IsTaskTable : Table (Table Values) → Type 0
IsTaskTable t = IsTable IsCellTable HasNoEntry t

or_none_is : (a : Option Values) → IsEntry IsValues (λ v. v ≡ no_value) a → IsValues (value_or_none a)
or_none_is None h = none_is
or_none_is (Some v) h = h.0

or_none_rises : (a b : Option Values) → IsEntry IsValues (λ v. v ≡ no_value) b → IsBelow IsValuesBelow a b
    → IsValuesBelow (value_or_none a) (value_or_none b)
or_none_rises None b b-is le = none_below (value_or_none b) (or_none_is b b-is)
or_none_rises (Some v) None b-is le = absurd le
or_none_rises (Some v) (Some w) b-is le = le

pub cond_is : (b : Bool) (v w : Values) → IsValues v → IsValues w → IsValues (cond b v w)
cond_is true v w v-is w-is = v-is
cond_is false v w v-is w-is = w-is

-- where a test only becomes true
pub cond_rises : (a b : Bool) (v w : Values) → IsValues w → (a ≡ true → b ≡ true) → IsValuesBelow v w
    → IsValuesBelow (cond a v no_value) (cond b w no_value)
cond_rises true true v w w-is more le = le
cond_rises true false v w w-is more le = absurd (false≢true (more refl))
cond_rises false b v w w-is more le = none_below (cond b w no_value) (cond_is b w no_value w-is none_is)

-- one test for both
pub cond_same : (b : Bool) (v w v' w' : Values) → IsValuesBelow v v' → IsValuesBelow w w'
    → IsValuesBelow (cond b v w) (cond b v' w')
cond_same true v w v' w' p q = p
cond_same false v w v' w' p q = q

-- a cell that is not fresh shows more
visible_more : (reader : Reader) (fresh fresh' : Bool) (j l : ℕ) → (IsTrue fresh' → IsTrue fresh)
    → is_visible reader fresh j l ≡ true → is_visible reader fresh' j l ≡ true
visible_more reader fresh fresh' j l fewer h =
    let first : (not (eqb j reader.task) ≡ true)
    × ((are_apart l reader.held && (leb (reader.priority reader.task) (reader.priority j) ||
    (not fresh && are_apart l reader.found))) ≡ true) = and_parts _ _ h in
    let second : (are_apart l reader.held ≡ true)
    × ((leb (reader.priority reader.task) (reader.priority j) || (not fresh && are_apart l reader.found)) ≡
    true) = and_parts _ _ first.1 in
    and_from _ _ first.0 (and_from _ _ second.0 (reasons
    (leb (reader.priority reader.task) (reader.priority j)) fresh fresh' (are_apart l reader.found) fewer second.1))
  where
    reasons : (a b c d : Bool) → (IsTrue c → IsTrue b) → (a || (not b && d)) ≡ true → (a || (not c && d)) ≡ true
    reasons true b c d p h = refl
    reasons false b false d p h = (and_parts (not b) d h).1
    reasons false true true d p h = absurd (false≢true h)
    reasons false false true d p h = absurd (false≢true (p refl))

module _ (reader : Reader) (x : ℕ) where
  module _ (fresh : Bool) where
    pub shown_is : (j : ℕ) (t : Table (Table Values)) → IsTaskTable t → (e : ℕ × Table Values) → IsOf (entries t) e
        → IsValues (cond (is_visible reader fresh j e.0) (value_or_none (get e.1 x)) no_value)
    shown_is j t t-is e h =
        cond_is (is_visible reader fresh j e.0) (value_or_none (get e.1 x)) no_value
        (or_none_is (get e.1 x) (entry_value IsCellTable HasNoEntry t e.0 e.1 t-is (of_entry t e h) x)) none_is

    pub task_is : (j : ℕ) (t : Table (Table Values)) → IsTaskTable t → IsValues (seen_of_task reader fresh x j t)
    task_is j t t-is = all_is (λ (e : ℕ × Table Values). cond (is_visible reader fresh j e.0)
        (value_or_none (get e.1 x)) no_value) (entries t) (shown_is j t t-is)

    tasks_are : (n : Nested) → IsNested n → (e : ℕ × Table (Table Values)) → IsOf (entries n) e
        → IsValues (seen_of_task reader fresh x e.0 e.1)
    tasks_are n n-is e h = task_is e.0 e.1 (entry_value IsTaskTable HasNoEntry n e.0 e.1 n-is (of_entry n e h))

    pub visible_is : (store : Interferences) → IsNested store.weak → IsValues (visible reader fresh x store)
    visible_is store store-is = all_is (λ (e : ℕ × Table (Table Values)). seen_of_task reader fresh x e.0 e.1)
        (entries store.weak) (tasks_are store.weak store-is)

    -- what a task sees lies above each entry that is visible
    pub visible_upper : (store : Interferences) (j l : ℕ) (written : Table (Table Values)) (cells : Table Values)
        (v : Values) → IsNested store.weak
        → get store.weak j ≡ Some written → get written l ≡ Some cells → get cells x ≡ Some v
        → is_visible reader fresh j l ≡ true → IsValuesBelow v (visible reader fresh x store)
    visible_upper store j l written cells v store-is at_j at_l at_x shows =
        let task-is = entry_value IsTaskTable HasNoEntry store.weak j written store-is at_j in
        let cells-is = entry_value IsCellTable HasNoEntry written l cells task-is at_l in
        let v-is = entry_value IsValues (λ w. w ≡ no_value) cells x v cells-is at_x in
        let here : cond (is_visible reader fresh j l) (value_or_none (get cells x)) no_value ≡ v = ap
        (λ b. cond b (value_or_none (get cells x)) no_value) shows ∙ ap value_or_none at_x in
        values_order.transitive v (seen_of_task reader fresh x j written) (visible reader fresh x store) v-is
        (task_is j written task-is) (visible_is store store-is)
        (subst (λ u. IsValuesBelow u (seen_of_task reader fresh x j written)) here
        (all_upper (λ (e : ℕ × Table Values). cond (is_visible reader fresh j e.0)
        (value_or_none (get e.1 x)) no_value) (entries written) (l, cells) (shown_is j written task-is)
        (entry_of written l cells at_l)))
        (all_upper (λ (e : ℕ × Table (Table Values)). seen_of_task reader fresh x e.0 e.1) (entries store.weak)
        (j, written) (tasks_are store.weak store-is) (entry_of store.weak j written at_j))

  module _ (fresh fresh' : Bool) (fewer : IsTrue fresh' → IsTrue fresh) where
    task_rises : (j : ℕ) (s t : Table (Table Values)) → IsTaskTable s → IsTaskTable t
        → IsTableBelow (IsTableBelow IsValuesBelow) s t → IsValuesBelow (seen_of_task reader fresh x j s)
        (seen_of_task reader fresh' x j t)
    task_rises j s t s-is t-is below =
        entries_rise (IsTableBelow IsValuesBelow) _ _ s t (shown_is fresh j s s-is) (shown_is fresh' j t t-is)
        (λ k v w at_s at_t le.
        let w-is = entry_value IsCellTable HasNoEntry t k w t-is at_t in
        cond_rises (is_visible reader fresh j k) (is_visible reader fresh' j k) (value_or_none (get v x))
        (value_or_none (get w x)) (or_none_is (get w x) (w-is x)) (visible_more reader fresh fresh' j k fewer)
        (or_none_rises (get v x) (get w x) (w-is x) (le x)))
        below

    pub visible_rises : (store other : Interferences) → IsStore store → IsStore other → IsStoreBelow store other
        → IsValuesBelow (visible reader fresh x store) (visible reader fresh' x other)
    visible_rises store other s-is t-is below =
        entries_rise (IsTableBelow (IsTableBelow IsValuesBelow)) _ _ store.weak other.weak
        (tasks_are fresh store.weak s-is.weak) (tasks_are fresh' other.weak t-is.weak)
        (λ k v w at_s at_t le. task_rises k v w (entry_value IsTaskTable HasNoEntry store.weak k v s-is.weak at_s)
        (entry_value IsTaskTable HasNoEntry other.weak k w t-is.weak at_t) le)
        below.weak

module _ (task m x : ℕ) where
  in_is : (a : Option (Table Values)) → IsEntry IsCellTable HasNoEntry a → IsValues (left_in x a)
  in_is None h = none_is
  in_is (Some cells) h = or_none_is (get cells x) (h.0 x)

  in_rises : (a b : Option (Table Values)) → IsEntry IsCellTable HasNoEntry b
      → IsBelow (IsTableBelow IsValuesBelow) a b → IsValuesBelow (left_in x a) (left_in x b)
  in_rises None b b-is le = none_below (left_in x b) (in_is b b-is)
  in_rises (Some v) None b-is le = absurd le
  in_rises (Some v) (Some w) b-is le = or_none_rises (get v x) (get w x) (b-is.0 x) (le x)

  pub left_is : (n : Nested) → IsNested n → (e : ℕ × Table (Table Values)) → IsOf (entries n) e
      → IsValues (cond (eqb e.0 task) no_value (left_at m x e.1))
  left_is n n-is e h = cond_is (eqb e.0 task) no_value (left_at m x e.1) none_is
      (in_is (get e.1 m) (entry_value IsTaskTable HasNoEntry n e.0 e.1 n-is (of_entry n e h) m))

  pub handed_is : (store : Interferences) → IsNested store.sync → IsValues (handed task m x store)
  handed_is store store-is = all_is (λ (e : ℕ × Table (Table Values)). cond (eqb e.0 task) no_value (left_at m x e.1))
      (entries store.sync) (left_is store.sync store-is)

  pub handed_rises : (store other : Interferences) → IsStore store → IsStore other → IsStoreBelow store other
      → IsValuesBelow (handed task m x store) (handed task m x other)
  handed_rises store other s-is t-is below =
      entries_rise (IsTableBelow (IsTableBelow IsValuesBelow)) _ _ store.sync other.sync
      (left_is store.sync s-is.sync) (left_is other.sync t-is.sync)
      (λ k v w at_s at_t le. cond_same (eqb k task) no_value (left_at m x v) no_value (left_at m x w)
      (values_order.reflexive no_value none_is)
      (in_rises (get v m) (get w m) (entry_value IsTaskTable HasNoEntry other.sync k w t-is.sync at_t m) (le m)))
      below.sync

  -- what a task is handed lies above each entry that another task left
  pub handed_upper : (store : Interferences) (j : ℕ) (left : Table (Table Values)) (cells : Table Values) (v : Values)
      → IsNested store.sync
      → get store.sync j ≡ Some left → get left m ≡ Some cells → get cells x ≡ Some v → eqb j task ≡ false
      → IsValuesBelow v (handed task m x store)
  handed_upper store j left cells v store-is at_j at_m at_x other =
      let here : cond (eqb j task) no_value (left_at m x left) ≡ v = ap
      (λ b. cond b no_value (left_at m x left)) other ∙ ap (left_in x) at_m ∙ ap value_or_none at_x in
      subst (λ u. IsValuesBelow u (handed task m x store)) here
      (all_upper (λ (e : ℕ × Table (Table Values)). cond (eqb e.0 task) no_value (left_at m x e.1))
      (entries store.sync) (j, left) (left_is store.sync store-is) (entry_of store.sync j left at_j))
