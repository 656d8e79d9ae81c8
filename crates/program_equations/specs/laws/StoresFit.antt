-- Stores that fit a program are joined and rounded to stores that fit it, and what the edges of its bodies add is one.
use Rattle.std.specs.Prelude.{◌≡◌, ℕ, ◌<◌, ℤ, Bool, true, false, ◌&&◌, cond, eqb, List, [], ◌∷◌, length, Option, Some}
use Rattle.std.specs.Prelude.{None, refl}
use Rattle.std.proofs.Common.{sym, subst, ◌∙◌, inl, inr}
use Rattle.std.proofs.lemmas.Bool.{cases_eq, false≢true, true≢false, and_parts}
use Rattle.std.specs.Int.{bit_at}
use Rattle.std.specs.Option.{option_map}
use Rattle.std.specs.Ordering.{nat_cmp}
use Rattle.std.specs.FinMap as map
use Rattle.std.specs.FinMap.{get, insert, len, keys, get-empty}
use Rattle.region_cells.specs.tm_lattice.Fitting.{IsBottom}
use Rattle.region_cells.specs.tm_lattice.Tables.{Table, IsEntry, IsTable, joined_at, joined_table, rounded_table}
use Rattle.region_cells.specs.tm_lattice.laws.TableLaws.{get-insert_here, get-insert_there, get-joined_table}
use Rattle.region_cells.specs.tm_lattice.laws.TableLaws.{get-rounded_table}
use Rattle.region_cells.specs.tm_typed.declared.types.Scalar.{Scalar}
use Rattle.region_cells.specs.tm_laid.Layouts.{LaidTree, abstract_at}
use Rattle.region_cells.specs.flow_graph.declared.operations.Operation.{Operation}
use Rattle.region_cells.specs.flow_graph.declared.operations.Operation.TheVariants as Op
use Rattle.edge_filters.specs.pointer_dom.PointerSets.{Pointers}
use Rattle.edge_filters.specs.pointer_dom.Values.{Values, IsValues, joined_values, rounded_values, no_value}
use Rattle.edge_filters.specs.cell_env.Cells.{IsWithin}
use Rattle.edge_filters.specs.interfere_set.Stores.{Nested, Interferences, HasNoEntry, IsNested, IsStore, IsStoreBelow}
use Rattle.edge_filters.specs.interfere_set.Stores.{no_interference, joined_nested, joined_store, rounded_nested}
use Rattle.edge_filters.specs.interfere_set.Stores.{rounded_store}
use Rattle.edge_filters.specs.interfere_set.laws.StoreLaws.{store_join, store_closure, store_nothing}
use Rattle.edge_filters.specs.transfer_rows.StateForms.{Temp, Cell, State, IsStateForm, IsStateUnder, is_no_value}
use Rattle.edge_filters.specs.transfer_rows.StateForms.{temp_value}
use Rattle.edge_filters.specs.transfer_rows.StateForms.{value_of}
use Rattle.edge_filters.specs.transfer_rows.Actions.{Spot, Around, stores as storing, unlocks}
use Rattle.edge_filters.specs.transfer_rows.Meanings.{IsSpotOf}
use Rattle.edge_filters.specs.transfer_rows.Accesses.{leads, is_among, targets_at}
use Rattle.edge_filters.specs.transfer_rows.Rows.{holds}
use Rattle.edge_filters.specs.transfer_rows.Reports.{targets_of, left_by, weak_of, sync_of}
use Rattle.edge_filters.specs.transfer_rows.Contributions.{cells_added, nested_under, added}
use Rattle.edge_filters.proofs.low.transfer_rows.Steps.{none_is_none, among_cons}
use Rattle.edge_filters.proofs.low.transfer_rows.Contributing as contributing
use Rattle.task_equations.specs.typed_values.Types.{IsOfType, HaveEnds}
use Rattle.task_equations.specs.typed_values.laws.TypeLaws.{none_of_type, joined_of_type, rounded_of_type}
use Rattle.edge_filters.specs.edge_actions.Layouts.{is_shared_cell, spots_of}
use Rattle.edge_filters.specs.edge_actions.Edges.{action_of}
use Rattle.task_equations.specs.temporary_types.Sorts.{Sort, FitsSorts}
use Rattle.task_equations.specs.temporary_types.Sorts.{IsMutex, types_of}
use Rattle.task_equations.specs.state_fits.Typed.{SpotsAgree}
use Rattle.task_equations.specs.state_fits.Kinds.{OfTypes}
use Rattle.task_equations.specs.laws.Extents.{node_typed}
use Rattle.task_equations.specs.state_fits.Fits.{file_set, FitsTemp, FitsCell, FitsPlace, FitsNested, FitsStore}
use Rattle.task_equations.specs.state_fits.laws.ActionsFit.{ActionFits}
use Rattle.task_equations.specs.state_fits.laws.Given.{sorted_fits}
use Rattle.task_equations.specs.mutex_configs.declared.nodes.EdgeCopy.{EdgeCopy}
use Rattle.task_equations.specs.Bodies.{Body, edge_of, node_at, live_at}
use Rattle.task_equations.specs.Equations.{tests_pointer, action_along, around_along, added_along}
use Rattle.task_equations.specs.Premises.{IsCopyOf, IsBody, FitsBody}
use Rattle.program_equations.specs.Systems.{stores}

-- ## Entries of tables

module _ {V : Type 0} (P : ℕ → V → Type 0) where
  -- what stands at a key keeps the property
  abbrev At : ℕ → Option V → Type 0
  At k a = (v : V) → a ≡ Some v → P k v

  -- each entry of the table does
  abbrev Each : Table V → Type 0
  Each t = (k : ℕ) → At k (get t k)

  none_at : (k : ℕ) → At k None
  none_at k v e = absurd (let h : (let n : Option V = None in n ≡ Some v) = e in cc)

  some_at : (k : ℕ) (v : V) → P k v → At k (Some v)
  some_at k v h w e = subst (P k) (let same : v ≡ w = cc in same) h

  empty_each : Each map.empty
  empty_each k = subst (At k) (sym (get-empty nat_cmp k)) (none_at k)

  inserted_each : (t : Table V) (k : ℕ) (v : V) → P k v → Each t → Each (insert t k v)
  inserted_each t k v h each x = elim (cases_eq x k) [
    | inl here ↦ subst (At x) (sym (get-insert_here t k v x here)) (some_at x v (subst (λ y. P y v) (sym here) h))
    | inr there ↦ subst (At x) (sym (get-insert_there t k v x there)) (each x)
  ]

  join_at : (join : V → V → V) → ((k : ℕ) (v w : V) → P k v → P k w → P k (join v w))
      → (k : ℕ) (a b : Option V) → At k a → At k b → At k (joined_at join a b)
  join_at join keeps k None b h g = g
  join_at join keeps k (Some v) None h g = h
  join_at join keeps k (Some v) (Some w) h g = some_at k (join v w) (keeps k v w (h v refl) (g w refl))

  joined_each : (join : V → V → V) → ((k : ℕ) (v w : V) → P k v → P k w → P k (join v w))
      → (s t : Table V) → Each s → Each t → Each (joined_table join s t)
  joined_each join keeps s t h g k =
      subst (At k) (sym (get-joined_table join s t k)) (join_at join keeps k (get s k) (get t k) (h k) (g k))

  round_at : (round : V → V) → ((k : ℕ) (v : V) → P k v → P k (round v))
      → (k : ℕ) (a : Option V) → At k a → At k (option_map round a)
  round_at round keeps k None h = none_at k
  round_at round keeps k (Some v) h = some_at k (round v) (keeps k v (h v refl))

  rounded_each : (round : V → V) → ((k : ℕ) (v : V) → P k v → P k (round v))
      → (t : Table V) → Each t → Each (rounded_table round t)
  rounded_each round keeps t h k =
      subst (At k) (sym (get-rounded_table round t k)) (round_at round keeps k (get t k) (h k))

-- ## Nothing

nested_nothing : IsNested map.empty
nested_nothing k =
    subst (IsEntry (IsTable (IsTable IsValues (λ v. v ≡ no_value)) HasNoEntry) HasNoEntry) (sym (get-empty nat_cmp k))
    tt

store_nowhere : IsStore no_interference
store_nowhere = record { weak = nested_nothing; sync = nested_nothing }

-- the store that has no interference is below each store, and rounded to itself
pub bottom : (marks : List ℤ) → IsBottom stores marks no_interference
bottom marks = record {
  below = λ s s-is. store_nothing.below no_interference s store_nowhere s-is (refl, refl);
  rounding =
      let none = store_nothing.rounding marks no_interference tt store_nowhere (refl, refl) in
      λ i. record { weak = none.0 i; sync = none.1 i };
}

-- ## Stores

module _ (laid : LaidTree) (tasks : ℕ) where
  -- the cell is shared, and the value of its type
  abbrev FitsShared : ℕ → Values → Type 0
  FitsShared x v = (x < length laid.abstract_cells) × (is_shared_cell laid x ≡ true)
      × (let a = abstract_at laid x in IsOfType laid a.scalar v)

  join_shared : (x : ℕ) (v w : Values) → FitsShared x v → FitsShared x w → FitsShared x (joined_values v w)
  join_shared x v w h k = (h.0, h.1, (let a = abstract_at laid x in joined_of_type laid a.scalar v w h.2 k.2))

  round_shared : (marks : List ℤ) → HaveEnds marks → (x : ℕ) (v : Values) → FitsShared x v
      → FitsShared x (rounded_values marks v)
  round_shared marks ends x v h =
      (h.0, h.1, (let a = abstract_at laid x in rounded_of_type laid marks a.scalar v ends h.2))

  module _ (IsSet : ℕ → Type 0) where
    -- what is written under a set of mutexes, or a mutex, and what a task has written
    abbrev FitsUnder : ℕ → Table Values → Type 0
    FitsUnder l cells = IsSet l × Each FitsShared cells

    abbrev FitsOf : ℕ → Table (Table Values) → Type 0
    FitsOf j written = (j < tasks) × Each FitsUnder written

    nested_of : (n : Nested) → Each FitsOf n → FitsNested laid tasks IsSet n
    nested_of n h = record {
      writers = λ j written at. (h j written at).0;
      sets = λ j l written cells at under. ((h j written at).1 l cells under).0;
      shared = λ j l x written cells v at under stands.
          (let e = ((h j written at).1 l cells under).1 x v stands in (e.0, e.1));
      values = λ j l x written cells v at under stands. (((h j written at).1 l cells under).1 x v stands).2;
    }

    of_nested : (n : Nested) → FitsNested laid tasks IsSet n → Each FitsOf n
    of_nested n h j written at = (
      h.writers j written at,
      λ l cells under. (
        h.sets j l written cells at under,
        λ x v stands.
            (let e = h.shared j l x written cells v at under stands in
            (e.0, e.1, h.values j l x written cells v at under stands)),
      ),
    )

    nothing_nested : FitsNested laid tasks IsSet map.empty
    nothing_nested = nested_of map.empty (empty_each FitsOf)

    join_under : (l : ℕ) (c d : Table Values) → FitsUnder l c → FitsUnder l d
        → FitsUnder l (joined_table joined_values c d)
    join_under l c d h k = (h.0, joined_each FitsShared joined_values join_shared c d h.1 k.1)

    join_of : (j : ℕ) (s t : Table (Table Values)) → FitsOf j s → FitsOf j t
        → FitsOf j (joined_table (joined_table joined_values) s t)
    join_of j s t h k = (h.0, joined_each FitsUnder (joined_table joined_values) join_under s t h.1 k.1)

    join_nested : (n m : Nested) → FitsNested laid tasks IsSet n → FitsNested laid tasks IsSet m
        → FitsNested laid tasks IsSet (joined_nested n m)
    join_nested n m h k =
        nested_of (joined_nested n m)
        (joined_each FitsOf (joined_table (joined_table joined_values)) join_of n m (of_nested n h) (of_nested m k))

    module _ (marks : List ℤ) (ends : HaveEnds marks) where
      round_under : (l : ℕ) (c : Table Values) → FitsUnder l c → FitsUnder l (rounded_table (rounded_values marks) c)
      round_under l c h = (h.0, rounded_each FitsShared (rounded_values marks) (round_shared marks ends) c h.1)

      round_of : (j : ℕ) (s : Table (Table Values)) → FitsOf j s
          → FitsOf j (rounded_table (rounded_table (rounded_values marks)) s)
      round_of j s h = (h.0, rounded_each FitsUnder (rounded_table (rounded_values marks)) round_under s h.1)

      round_nested : (n : Nested) → FitsNested laid tasks IsSet n → FitsNested laid tasks IsSet (rounded_nested marks n)
      round_nested n h =
          nested_of (rounded_nested marks n)
          (rounded_each FitsOf (rounded_table (rounded_table (rounded_values marks))) round_of n (of_nested n h))

    -- one table of cells under a task
    under_fits : (j l : ℕ) (cells : Table Values) → j < tasks → IsSet l → Each FitsShared cells
        → FitsNested laid tasks IsSet (nested_under j l cells)
    under_fits j l cells writes set h = by_test (eqb (len cells) 0)
      where
        by_test : (b : Bool)
            → FitsNested laid tasks IsSet (cond b map.empty (insert map.empty j (insert map.empty l cells)))
        by_test true = nothing_nested
        by_test false =
            nested_of (insert map.empty j (insert map.empty l cells))
            (inserted_each FitsOf map.empty j (insert map.empty l cells)
            (writes, inserted_each FitsUnder map.empty l cells (set, h) (empty_each FitsUnder)) (empty_each FitsOf))

  pub nothing_fits : FitsStore laid tasks no_interference
  nothing_fits = record {
    form = store_nowhere;
    weak = nothing_nested (λ l. IsWithin l (file_set laid));
    sync = nothing_nested (IsMutex laid);
  }

  pub joined_fits : (s t : Interferences) → FitsStore laid tasks s → FitsStore laid tasks t
      → FitsStore laid tasks (joined_store s t)
  joined_fits s t h k = record {
    form = store_join.value s t h.form k.form;
    weak = join_nested (λ l. IsWithin l (file_set laid)) s.weak t.weak h.weak k.weak;
    sync = join_nested (IsMutex laid) s.sync t.sync h.sync k.sync;
  }

  pub rounded_fits : (marks : List ℤ) (s : Interferences) → HaveEnds marks → FitsStore laid tasks s
      → FitsStore laid tasks (rounded_store marks s)
  rounded_fits marks s ends h = record {
    form = store_closure.value marks s tt h.form;
    weak = round_nested (λ l. IsWithin l (file_set laid)) marks ends s.weak h.weak;
    sync = round_nested (IsMutex laid) marks ends s.sync h.sync;
  }

  -- ## What is added

  cells_fit : (value : ℕ → Values) (xs : List ℕ)
      → ((x : ℕ) → is_no_value (value x) ≡ false → FitsShared x (value x)) → Each FitsShared (cells_added value xs)
  cells_fit value [] h = empty_each FitsShared
  cells_fit value (x ∷ xs) h = by_test (is_no_value (value x)) refl (cells_fit value xs h)
    where
      by_test : (b : Bool) → is_no_value (value x) ≡ b → Each FitsShared (cells_added value xs)
          → Each FitsShared (cond b (cells_added value xs) (insert (cells_added value xs) x (value x)))
      by_test true none rest = rest
      by_test false some rest = inserted_each FitsShared (cells_added value xs) x (value x) (h x some) rest

  cond_fits : (b : Bool) (v : Values) (x : ℕ) → (b ≡ true → is_no_value v ≡ false → FitsShared x v)
      → is_no_value (cond b v no_value) ≡ false → FitsShared x (cond b v no_value)
  cond_fits true v x h some = h refl some
  cond_fits false v x h some = absurd (true≢false (sym none_is_none ∙ some))

-- what is among the targets of an access is the cell of a spot
spot_of : (spots : List Spot) (p : Pointers) (x : ℕ) → is_among (targets_at spots p) x ≡ true
    → (spot : Spot) × ((IsSpotOf spots spot) × (x ≡ spot.cell))
spot_of [] p x h = absurd (false≢true h)
spot_of (spot ∷ spots) p x h = by_lead (λ k. spot_of spots p x k) (leads p spot.object spot.offset) h
  where
    by_lead : (is_among (targets_at spots p) x ≡ true → (s : Spot) × ((IsSpotOf spots s) × (x ≡ s.cell))) → (b : Bool)
        → is_among (cond b (spot.cell ∷ targets_at spots p) (targets_at spots p)) x ≡ true
        → (s : Spot) × ((IsSpotOf (spot ∷ spots) s) × (x ≡ s.cell))
    by_lead later true k = elim (among_cons spot.cell x (targets_at spots p) k) [
      | inl here ↦ (spot, (inl refl, here))
      | inr there ↦ let r = later there in (r.0, (inr r.1.0, r.1.1))
    ]
    by_lead later false k = let r = later k in (r.0, (inr r.1.0, r.1.1))

module _ (laid : LaidTree) (task tasks : ℕ) (sorts : List Sort) (around : Around) (agree : SpotsAgree laid task)
    (within : (scalar : Scalar) (spot : Spot) → IsSpotOf (spots_of laid task scalar) spot
    → spot.cell < length laid.abstract_cells)
    (writes : around.reader.task < tasks) (held : IsWithin around.reader.held (file_set laid))
    (shared : (x : ℕ) → around.is_shared x ≡ is_shared_cell laid x)
    (s : State) (live : List ℕ) (fits : FitsPlace laid task (OfTypes laid (types_of sorts)) live s)
    (pointers answer : Bool) where
  typed_at : (t : ℕ) (a : Option Temp) → FitsTemp (OfTypes laid (types_of sorts)) live t a
      → IsOfType laid (types_of sorts t) (temp_value a)
  typed_at t None h = none_of_type laid (types_of sorts t)
  typed_at t (Some e) h = h.1

  typed : (t : ℕ) → IsOfType laid (types_of sorts t) (value_of s t)
  typed t = typed_at t (get s.temps t) (fits.temps t)

  -- a store
  stored : (scalar : Scalar) (address source : ℕ)
      → ActionFits laid (OfTypes laid (types_of sorts)) s (storing (spots_of laid task scalar) address source)
      → (x : ℕ) → is_no_value (weak_of around (storing (spots_of laid task scalar) address source) s x) ≡ false
      → FitsShared laid tasks x (weak_of around (storing (spots_of laid task scalar) address source) s x)
  unfolding weak_of ActionFits
  stored scalar address source k x some =
      let targets = targets_at (spots_of laid task scalar) (value_of s address).pointers in
      cond_fits laid tasks (around.is_shared x && is_among targets x) (value_of s source) x (λ both v-some.
      let parts = and_parts (around.is_shared x) (is_among targets x) both in
      let spot = spot_of (spots_of laid task scalar) (value_of s address).pointers x parts.1 in (
        subst (λ z. z < length laid.abstract_cells) (sym spot.1.1) (within scalar spot.0 spot.1.0),
        sym (shared x) ∙ parts.0,
        k x (value_of s source) parts.1 (typed source),
      )) some

  -- the own value of a cell in which the mutex is pending
  left_fits : (m x : ℕ) (a : Option Cell) → FitsCell laid task x a → is_shared_cell laid x ≡ true
      → is_no_value (left_by m a) ≡ false → FitsShared laid tasks x (left_by m a)
  left_fits m x None h is some = absurd (true≢false (sym none_is_none ∙ some))
  left_fits m x (Some c) h is some =
      cond_fits laid tasks (eqb (bit_at c.pending m) 1) c.value x (λ pending v-some. (h.0.cell, is, h.1.value)) some

  unlocked : (m x : ℕ) → is_no_value (sync_of around (unlocks m) s m x) ≡ false
      → FitsShared laid tasks x (sync_of around (unlocks m) s m x)
  unfolding sync_of
  unlocked m x some =
      cond_fits laid tasks (around.is_shared x && (eqb m m && holds around m)) (left_by m (get s.cells x)) x
      (λ both v-some.
      let parts = and_parts (around.is_shared x) (eqb m m && holds around m) both in
      left_fits m x (get s.cells x) (fits.cells x) (sym (shared x) ∙ parts.0) v-some) some

  -- what an operation adds fits
  abbrev Fits : Operation → Type 0
  Fits op = FitsStore laid tasks (added around (action_of laid task pointers answer op) s)

  operation_adds : (op : Operation) → FitsSorts laid sorts op → Fits op
  unfolding added targets_of
  operation_adds (Op.Store address source scalar into place) h =
      let action = storing (spots_of laid task scalar) address source in record {
        form = contributing.added_is around s fits.form action;
        weak = under_fits laid tasks (λ l. IsWithin l (file_set laid)) around.reader.task around.reader.held _ writes
            held (cells_fit laid tasks (weak_of around action s) _
            (stored scalar address source
            (sorted_fits laid task agree sorts s typed pointers answer
            (Op.Store address source scalar into place) h tt)));
        sync = nothing_nested laid tasks (IsMutex laid);
      }
  operation_adds (Op.Unlock m place) h = record {
    form = contributing.added_is around s fits.form (unlocks m);
    weak = nothing_nested laid tasks (λ l. IsWithin l (file_set laid));
    sync = under_fits laid tasks (IsMutex laid) around.reader.task m _ writes h.0
        (cells_fit laid tasks (sync_of around (unlocks m) s m) (keys s.cells) (unlocked m));
  }
  operation_adds Op.Skip h = nothing_fits laid tasks
  operation_adds (Op.Const to value) h = nothing_fits laid tasks
  operation_adds (Op.Copy to from) h = nothing_fits laid tasks
  operation_adds (Op.Un to operator of from place) h = nothing_fits laid tasks
  operation_adds (Op.Bin to operator of left right place) h = nothing_fits laid tasks
  operation_adds (Op.BinPointers to equal left right) h = nothing_fits laid tasks
  operation_adds (Op.Convert to was of from) h = nothing_fits laid tasks
  operation_adds (Op.Base to object) h = nothing_fits laid tasks
  operation_adds (Op.Offset to from cells) h = nothing_fits laid tasks
  operation_adds (Op.Index to from count cells by place) h = nothing_fits laid tasks
  operation_adds (Op.Move to from cells minus by place) h = nothing_fits laid tasks
  operation_adds (Op.Deref to from target path place) h = nothing_fits laid tasks
  operation_adds (Op.Load to address scalar place) h = nothing_fits laid tasks
  operation_adds (Op.LoadAny to address scalar place) h = nothing_fits laid tasks
  operation_adds (Op.Any to low high) h = nothing_fits laid tasks
  operation_adds (Op.Clear object) h = nothing_fits laid tasks
  operation_adds (Op.Usable pointer place) h = nothing_fits laid tasks
  operation_adds (Op.Assume test) h = nothing_fits laid tasks
  operation_adds (Op.Lock mutex place) h = nothing_fits laid tasks
  operation_adds Op.Yield h = nothing_fits laid tasks
  operation_adds (Op.Probe to mutex place) h = nothing_fits laid tasks

-- What a copy of an edge adds fits, where each cell that the body may reach is of an abstract cell that there is.
pub added_fits : (b : Body) (sorts : List Sort) → IsBody b sorts
    → ((scalar : Scalar) (spot : Spot) → IsSpotOf (spots_of b.laid b.task scalar) spot
    → spot.cell < length b.laid.abstract_cells)
    → (tasks : ℕ) → b.task < tasks → (c : EdgeCopy) → IsCopyOf b c → (s : State) → FitsBody b c.from s
    → FitsStore b.laid tasks (added_along b c s)
added_fits b sorts is within tasks writes c copy s fits =
    let e = edge_of b c in
    let q = node_at b c.from in
    operation_adds b.laid b.task tasks sorts (around_along b c) is.spots within writes (is.held c.from copy.from)
    (λ x. refl) s (live_at b q.place) (node_typed b sorts is c.from s fits) (tests_pointer b.pointers e.op) c.answer
    e.op (is.operations c.edge copy.edge)

-- ## Order

pub added_rises : (b : Body) (c : EdgeCopy) (s s' : State) → IsStateForm s → IsStateForm s' → IsStateUnder s s'
    → IsStoreBelow (added_along b c s) (added_along b c s')
added_rises b c s s' s-is s'-is le =
    contributing.added_rises (around_along b c) s s' s-is s'-is le (action_along b c)
