-- An edge that passes was checked: what the code tests of lists says what the rows ask of each cell.
use Rattle.std.specs.Prelude.{◌≡◌, ℕ, zero, suc, ◌+◌, ◌-◌, ◌^◌, ◌<◌, ◌≤◌, ◌==◌, eqb, nat_le, nat_lt, Bool, true, false}
use Rattle.std.specs.Prelude.{◌&&◌, ◌||◌, not, cond, bit_or, length, slice_index_or, List, [], ◌∷◌, Option, Some, None}
use Rattle.std.specs.Prelude.{refl}
use Rattle.std.proofs.Common.{sym, ap, subst, ◌∙◌, inl, inr, arith}
use Rattle.std.specs.List.{list_all}
use Rattle.std.specs.FinMap.{get, entries, empty as no_entry, get-empty}
use Rattle.std.specs.Ordering.{nat_cmp}
use Rattle.std.proofs.Math.Bool.{or-false}
use Rattle.std.specs.Int.Bits.{and_zero_l}
use Rattle.std.proofs.lemmas.Bool.{true≢false, false≢true, and_parts, or_cases, cases_eq, cases_lt, eqb-true}
use Rattle.std.proofs.lemmas.Bool.{leb-true, ltb-true}
use Rattle.std.proofs.lemmas.List.{get_or_past}
use Rattle.tm_lattice.specs.Tables.{Table, joined_at, joined_table}
use Rattle.tm_lattice.specs.laws.TableLaws.{same_table, joined_at_none, get-joined_table}
use Rattle.tm_laid.specs.Layouts.{LaidTree, object_at, abstract_at}
use Rattle.flow_graph.specs.declared.operations.Test.TheVariants.{Numbers, Pointers, Truth, Case}
use Rattle.flow_graph.specs.declared.operations.Operation.{Operation}
use Rattle.flow_graph.specs.declared.operations.Operation.TheVariants as Op
use Rattle.sparse_rows.specs.transfer_rows.interfere_set.pointer_dom.OffsetSets.{OffsetSet, joined_offsets}
use Rattle.sparse_rows.specs.transfer_rows.interfere_set.pointer_dom.Values.{Values, joined_values, no_value}
use Rattle.sparse_rows.specs.transfer_rows.interfere_set.pointer_dom.laws.ValueLaws.{values_order, values_join}
use Rattle.sparse_rows.specs.transfer_rows.interfere_set.Stores.{Interferences, value_or_none, joined_onto, left_in}
use Rattle.sparse_rows.specs.transfer_rows.interfere_set.Stores.{left_at, handed}
use Rattle.sparse_rows.specs.transfer_rows.interfere_set.laws.Joins.{none_is, none_below, IsOf, entry_of}
use Rattle.sparse_rows.specs.transfer_rows.StateForms.{Cell, State}
use Rattle.sparse_rows.specs.transfer_rows.Actions.{Around}
use Rattle.sparse_rows.specs.transfer_rows.Accesses.{is_among}
use Rattle.sparse_rows.specs.transfer_rows.Rows.{taken, without}
use Rattle.sparse_rows.specs.transfer_rows.Reports.{targets_of}
use Rattle.sparse_rows.specs.Checks.{IsChecked}
use Rattle.edge_actions.specs.Layouts.{is_shared_cell, open_value}
use Rattle.edge_actions.specs.Edges.{action_of}
use Rattle.cell_placings.specs.CellLists.{is_in, cells_at}
use Rattle.row_checks.specs.declared.traces.Traces.{Traces}
use Rattle.row_checks.specs.TracedCells.{may_copy, may_be_fresh, may_pend}
use Rattle.row_checks.specs.Passing.{all_below, are_in, is_loaded_in, is_pending_in, is_stored_in, is_cleared_in}
use Rattle.row_checks.specs.Passing.{are_copies_in, is_shared_in, are_cells_in, is_left_in, is_handed_in, is_kept}
use Rattle.row_checks.specs.Passing.{is_unlocked_in, passes_of}

-- ## Tests of lists

pub each_of : {A : Type 0} (test : A → Bool) (xs : List A) → list_all test xs ≡ true → (x : A) → IsOf xs x
    → test x ≡ true
each_of test [] all x h = absurd h
each_of test (y ∷ ys) all x (inl here) =
    subst (λ z. test z ≡ true) (sym here) (and_parts (test y) (list_all test ys) all).0
each_of test (y ∷ ys) all x (inr there) =
    each_of test ys (and_parts (test y) (list_all test ys) all).1 x there

of_among : (xs : List ℕ) (x : ℕ) → is_among xs x ≡ true → IsOf xs x
of_among [] x h = absurd (false≢true h)
of_among (y ∷ ys) x h = elim (or_cases (eqb x y) (is_among ys x) h) [
  | inl here ↦ inl (eqb-true x y here)
  | inr there ↦ inr (of_among ys x there)
]

of_in : (xs : List ℕ) (x : ℕ) → is_in xs x ≡ true → IsOf xs x
of_in [] x h = absurd (false≢true h)
of_in (y ∷ ys) x h = elim (or_cases (y == x) (is_in ys x) h) [
  | inl here ↦ inl (sym (eqb-true y x here))
  | inr there ↦ inr (of_in ys x there)
]

each_below : (test : ℕ → Bool) (n : ℕ) → all_below test n ≡ true → (k : ℕ) → k < n → test k ≡ true
each_below test zero all k lt = absurd (omega (arith, lt))
each_below test (suc n) all k lt = elim (cases_eq k n) [
  | inl here ↦ subst (λ m. test m ≡ true) (sym here) (and_parts (all_below test n) (test n) all).1
  | inr there ↦ each_below test n (and_parts (all_below test n) (test n) all).0 k (omega (arith, lt, there))
]

-- what is not true where it is false above
false_where : (b c : Bool) → (b ≡ true → c ≡ true) → c ≡ false → b ≡ false
false_where true c h other = absurd (true≢false (sym (h refl) ∙ other))
false_where false c h other = refl

right_of : (a b : Bool) → (not a || b) ≡ true → a ≡ true → b ≡ true
right_of true b h is = h
right_of false b h is = absurd (false≢true is)

left_of : (a b : Bool) → (a || b) ≡ true → b ≡ false → a ≡ true
left_of true b h other = refl
left_of false b h other = absurd (false≢true (sym other ∙ h))

-- ## Nothing is handed over

join_empty : (t : Table OffsetSet) → joined_table joined_offsets t no_entry ≡ t
join_empty t = same_table _ _ (λ key. get-joined_table joined_offsets t no_entry key
    ∙ ap (joined_at joined_offsets (get t key)) (get-empty nat_cmp key) ∙ joined_at_none joined_offsets (get t key))

-- the join with nothing
join_none : (v : Values) → joined_values v no_value ≡ v
join_none v =
    let w : Values = record { numbers = v.numbers; pointers = no_value.pointers } in
    let both = values_join.value w no_value none_is none_is in
    let same : joined_values w no_value ≡ w = values_order.antisymmetric (joined_values w no_value) w both none_is
    (values_join.least w no_value w none_is none_is none_is (values_order.reflexive w none_is) (none_below w none_is))
    (values_join.left w no_value none_is none_is) in
    let numbers = ap (λ (u : Values). u.numbers) same in
    let null = or-false v.pointers.null in
    let invalid = or-false v.pointers.invalid in
    let objects = join_empty v.pointers.objects in
    λ i. record {
      numbers = numbers i;
      pointers = record { null = null i; invalid = invalid i; objects = objects i };
    }

module _ (laid : LaidTree) (touched : List ℕ) (task m x : ℕ) (shared : is_shared_cell laid x ≡ true)
    (other : is_in touched x ≡ false) where
  none_at : (cells : Table Values) → list_all (is_shared_in laid touched) (entries cells) ≡ true
      → (a : Option Values) → get cells x ≡ a → value_or_none a ≡ no_value
  none_at cells all None is = refl
  none_at cells all (Some v) is =
      let h = each_of (is_shared_in laid touched) (entries cells) all (x, v) (entry_of cells x v is) in
      absurd (true≢false (sym (right_of (is_shared_cell laid x) (is_in touched x) h shared) ∙ other))

  none_left : (a : Option (Table Values)) → are_cells_in laid touched a ≡ true → left_in x a ≡ no_value
  none_left None all = refl
  none_left (Some cells) all = none_at cells all (get cells x) refl

  abbrev part : ℕ × Table (Table Values) → Values
  part e = cond (eqb e.0 task) no_value (left_at m x e.1)

  none_of : (b : Bool) (a : Option (Table Values)) → (b || are_cells_in laid touched a) ≡ true
      → cond b no_value (left_in x a) ≡ no_value
  none_of true a h = refl
  none_of false a h = none_left a h

  none_joined : (es : List (ℕ × Table (Table Values))) → list_all (is_left_in laid touched task m) es ≡ true
      → joined_onto part no_value es ≡ no_value
  none_joined [] all = refl
  none_joined (e ∷ es) all =
      let both = and_parts (is_left_in laid touched task m e) (list_all (is_left_in laid touched task m) es) all in
      ap (λ v. joined_onto part v es)
      (ap (joined_values no_value) (none_of (eqb e.0 task) (get e.1 m) both.0) ∙ join_none no_value)
      ∙ none_joined es both.1

  none_handed : (store : Interferences) → is_handed_in laid touched task m store ≡ true
      → handed task m x store ≡ no_value
  none_handed store all = none_joined (entries store.sync) all

-- ## Edges

module _ (laid : LaidTree) (task held : ℕ) (touched carried looked : List ℕ) (traces : Traces) (around : Around)
    (is_task : around.reader.task ≡ task) (is_held : around.reader.held ≡ held)
    (is_shared : (x : ℕ) → around.is_shared x ≡ is_shared_cell laid x) where
  abbrev Checked : Bool → Bool → Operation → State → Interferences → Type 0
  Checked pointers answer operation s store = IsChecked around (is_in touched) (is_in carried) (is_in looked)
      (may_copy traces) (may_be_fresh traces) (may_pend traces) (action_of laid task pointers answer operation) s store

  -- a cell that is not carried takes nothing over
  nothing_taken : (m : ℕ) (store : Interferences) → is_handed_in laid carried task m store ≡ true → (x : ℕ)
      → is_in carried x ≡ false → (b : Bool) → around.is_shared x ≡ b
      → cond b (handed around.reader.task m x store) no_value ≡ no_value
  nothing_taken m store all x other true is =
      ap (λ t. handed t m x store) is_task
      ∙ none_handed laid carried task m x (sym (is_shared x) ∙ is) other store all
  nothing_taken m store all x other false is = refl

  same_taken : (m : ℕ) (store : Interferences) → is_handed_in laid carried task m store ≡ true → (x : ℕ)
      → is_in carried x ≡ false → (c : Cell) → taken around store m x c ≡ c
  same_taken m store all x other c =
      ap (λ (v : Values). record c { value = v })
      (ap (joined_values c.value) (nothing_taken m store all x other (around.is_shared x) refl) ∙ join_none c.value)

  none_fresh : are_in carried traces.fresh ≡ true → (x : ℕ) → is_in carried x ≡ false
      → may_be_fresh traces x ≡ false
  none_fresh all x other = false_where (may_be_fresh traces x) (is_in carried x)
      (λ h. each_of (is_in carried) traces.fresh all x (of_in traces.fresh x h)) other

  copies_touched : (t : ℕ) → are_copies_in touched traces t ≡ true → (x : ℕ) → may_copy traces t x ≡ true
      → is_in touched x ≡ true
  copies_touched t all x h = (let cells = cells_at traces.copies.items t in
      each_of (is_in touched) cells all x (of_in cells x h))

  at_copies : (t u : ℕ) → are_copies_in touched traces t ≡ true → u ≡ t → (x : ℕ) → may_copy traces u x ≡ true
      → is_in touched x ≡ true
  at_copies t u all is x h = copies_touched t all x (subst (λ n. may_copy traces n x ≡ true) is h)

  pends : (x : ℕ) → is_pending_in laid traces held x ≡ true → around.is_shared x ≡ true
      → bit_or around.reader.held (may_pend traces x) ≡ may_pend traces x
  pends x h shared =
      ap (λ n. bit_or n (may_pend traces x)) is_held
      ∙ eqb-true (bit_or held (may_pend traces x)) (may_pend traces x)
      (right_of (is_shared_cell laid x) (bit_or held (may_pend traces x) == may_pend traces x) h
      (sym (is_shared x) ∙ shared))

  not_cleared : (object : ℕ) → is_cleared_in laid touched object ≡ true → (x : ℕ) → is_in touched x ≡ false
      → (b : Bool) → (let o = object_at laid object in
      (nat_le o.first_abstract x && nat_lt x (o.first_abstract + o.abstract_cells)) ≡ b)
      → b ≡ false
  not_cleared object all x other false is = refl
  not_cleared object all x other true is =
      let o = object_at laid object in
      let first = o.first_abstract in
      let both = and_parts (nat_le first x) (nat_lt x (first + o.abstract_cells)) is in
      let low : first ≤ x = leb-true first x both.0 in
      let high : x < first + o.abstract_cells = ltb-true x (first + o.abstract_cells) both.1 in
      let here : is_in touched (first + (x - first)) ≡ true =
      each_below (λ k. is_in touched (first + k)) o.abstract_cells all (x - first) (omega (arith, low, high)) in
      let same : first + (x - first) ≡ x = omega (arith, low) in
      absurd (true≢false (sym (subst (λ y. is_in touched y ≡ true) same here) ∙ other))

  kept : (m : ℕ) → is_unlocked_in carried traces.pending.items m ≡ true → (x : ℕ) → is_in carried x ≡ false
      → without (may_pend traces x) m ≡ may_pend traces x
  kept m all x other = elim (cases_lt x (length traces.pending.items)) [
    | inl lt ↦ eqb-true (without (may_pend traces x) m) (may_pend traces x)
        (left_of (is_kept m (may_pend traces x)) (is_in carried x)
        (each_below (λ y. is_kept m (slice_index_or traces.pending.items y 0) || is_in carried y)
        (length traces.pending.items) all x lt) other)
    | inr past ↦ subst (λ p. without p m ≡ p) (sym (get_or_past traces.pending.items x 0 past))
        (and_zero_l (65535 - 2 ^ m))
  ]

  -- an edge that passes with the cells that it reaches in a state was checked in that state
  pub passes_is_checked : (pointers answer : Bool) (operation : Operation) (s : State) (store : Interferences)
      → passes_of laid task held answer operation touched carried looked traces
      (targets_of (action_of laid task pointers answer operation) s) store ≡ true
      → Checked pointers answer operation s store
  unfolding passes_of IsChecked targets_of
  passes_is_checked pointers answer Op.Skip s store h = tt
  passes_is_checked pointers answer (Op.Const to value) s store h = tt
  passes_is_checked pointers answer (Op.Copy to from) s store h = tt
  passes_is_checked pointers answer (Op.Un to operator of from place) s store h = tt
  passes_is_checked pointers answer (Op.Bin to operator of left right place) s store h = tt
  passes_is_checked pointers answer (Op.BinPointers to equal left right) s store h = tt
  passes_is_checked pointers answer (Op.Convert to was of from) s store h = tt
  passes_is_checked pointers answer (Op.Base to object) s store h = tt
  passes_is_checked pointers answer (Op.Offset to from cells) s store h = tt
  passes_is_checked pointers answer (Op.Index to from count cells by place) s store h = tt
  passes_is_checked pointers answer (Op.Move to from cells minus by place) s store h = tt
  passes_is_checked pointers answer (Op.Deref to from target path place) s store h = tt
  passes_is_checked pointers answer (Op.Load to address scalar place) s store h = λ x among.
      and_parts (is_in looked x) (may_copy traces to x)
      (each_of (is_loaded_in looked traces to) _ h x (of_among _ x among))
  passes_is_checked pointers answer (Op.LoadAny to address scalar place) s store h = tt
  passes_is_checked pointers answer (Op.Store address value scalar into place) s store h = λ x among.
      (let all = and_parts (is_in touched x) (may_be_fresh traces x && is_pending_in laid traces held x)
      (each_of (is_stored_in laid touched traces held) _ h x (of_among _ x among)) in
      let rest = and_parts (may_be_fresh traces x) (is_pending_in laid traces held x) all.1 in
      (all.0, rest.0, pends x rest.1))
  passes_is_checked pointers answer (Op.Any to low high) s store h = tt
  passes_is_checked pointers answer (Op.Clear object) s store h = λ x other.
      (let o = object_at laid object in
      let b = nat_le o.first_abstract x && nat_lt x (o.first_abstract + o.abstract_cells) in
      ap (λ c. cond c (Some (open_value (abstract_at laid x).scalar)) None) (not_cleared object h x other b refl))
  passes_is_checked pointers answer (Op.Usable pointer place) s store h = λ t is. at_copies pointer t h is
  passes_is_checked pointers answer (Op.Assume (Numbers operator of left right)) s store h = λ t at.
      (let both = and_parts (are_copies_in touched traces left) (are_copies_in touched traces right) h in
      elim at [ inl is ↦ at_copies left t both.0 is | inr is ↦ at_copies right t both.1 is ])
  passes_is_checked pointers answer (Op.Assume (Pointers equal left right)) s store h = λ t at.
      (let both = and_parts (are_copies_in touched traces left) (are_copies_in touched traces right) h in
      elim at [ inl is ↦ at_copies left t both.0 is | inr is ↦ at_copies right t both.1 is ])
  passes_is_checked true answer (Op.Assume (Truth holds value)) s store h = λ t at.
      elim at [ inl is ↦ at_copies value t h is | inr none ↦ absurd none ]
  passes_is_checked false answer (Op.Assume (Truth holds value)) s store h = λ t at.
      elim at [ inl is ↦ at_copies value t h is | inr none ↦ absurd none ]
  passes_is_checked pointers answer (Op.Assume (Case holds label value)) s store h = λ t at.
      elim at [ inl is ↦ at_copies value t h is | inr none ↦ absurd none ]
  passes_is_checked pointers answer (Op.Lock mutex place) s store h = λ x un other.
      (let both = and_parts (are_in carried traces.fresh) (is_handed_in laid carried task mutex store) h in
      (none_fresh both.0 x other, same_taken mutex store both.1 x other))
  passes_is_checked pointers answer (Op.Unlock mutex place) s store h = λ x un. kept mutex h x
  passes_is_checked pointers answer Op.Yield s store h = λ x un. none_fresh h x
  passes_is_checked pointers true (Op.Probe to mutex place) s store h = tt
  passes_is_checked pointers false (Op.Probe to mutex place) s store h = λ x un. same_taken mutex store h x

-- ## Layouts

-- of a layout its objects and abstract cells are read alone
pub passes_alike : (laid other : LaidTree) → other.objects ≡ laid.objects → other.abstract_cells ≡ laid.abstract_cells
    → (task held : ℕ) (answer : Bool) (operation : Operation) (touched carried looked : List ℕ) (traces : Traces)
    (targets : List ℕ) (store : Interferences)
    → passes_of other task held answer operation touched carried looked traces targets store
    ≡ passes_of laid task held answer operation touched carried looked traces targets store
unfolding passes_of
passes_alike laid other objects cells task held answer operation touched carried looked traces targets store =
    read operation
    ∙ (λ i. passes_of (record laid { objects = objects i; abstract_cells = cells i }) task held answer operation touched
    carried looked traces targets store)
  where
    read : (op : Operation) → passes_of other task held answer op touched carried looked traces targets store
        ≡ passes_of (record laid { objects = other.objects; abstract_cells = other.abstract_cells }) task held answer op
        touched carried looked traces targets store
    read (Op.Store address value scalar into place) = refl
    read (Op.Clear object) = refl
    read (Op.Lock mutex place) = refl
    read (Op.Probe to mutex place) = refl
    read op = refl
