-- The rows on small states, with the values that the table of transfers gives; and states that meet the premises of the
-- laws.
use Rattle.std.specs.Prelude.{◌≡◌, ℕ, ◌<◌, Bool, true, false, ◌||◌, cond, eqb, List, [], ◌∷◌, Option, Some, None, ℤ, pos, negsuc, refl}
use Rattle.std.proofs.Common.{sym, ap, subst, ◌∙◌, inl, inr, arith}
use Rattle.std.specs.Ordering.{nat_cmp}
use Rattle.std.proofs.lemmas.Int.{ints}
use Rattle.std.proofs.lemmas.Bool.{cases_eq, false≢true}
use Rattle.std.specs.FinMap as map
use Rattle.std.specs.FinMap.{get, insert, get-empty}
use Rattle.interfere_set.specs.strided_dom.Progression.{Progression, empty as no_number, single, row, Has}
use Rattle.tm_cint.specs.IntTypes.{IsIn}
use Rattle.tm_cint.specs.declared.int_types.IntType.TheVariants.{Int}
use Rattle.tm_cint.specs.declared.operators.BinOp.TheVariants.{Eq}
use Rattle.cell_env.specs.tm_lattice.Tables.{IsTable, IsEntry}
use Rattle.cell_env.specs.tm_lattice.laws.TableLaws.{get-insert_here, get-insert_there}
use Rattle.interfere_set.specs.pointer_dom.OffsetSets.{OffsetSet, IsOffsetSet, HasNoOffset}
use Rattle.interfere_set.specs.pointer_dom.Pointer.{ScalarValue, number, pointer, to}
use Rattle.interfere_set.specs.pointer_dom.PointerSets.{Pointers, offsets_or_none, no_pointer}
use Rattle.interfere_set.specs.pointer_dom.Values.{Values, IsValues, IsValueIn, joined_values, no_value}
use Rattle.interfere_set.proofs.low.pointer_dom.Meaning.{in_value_meet, value_below_from}
use Rattle.interfere_set.specs.Stores.{Interferences}
use Rattle.interfere_set.specs.laws.Joins.{none_is}
use Rattle.operator_values.specs.filters.Partners.{Compares, HasPartner}
use Rattle.operator_values.specs.Integers.{assumed_is}
use Rattle.operator_values.specs.MetValues.{met_values, met_values_is, met_values_fit}
use Rattle.transfer_rows.specs.StateForms.{Temp, Cell, State, IsTempForm, IsCellForm, is_no_value, only_numbers, only_pointers, temp_value, own_value, value_of, own_of}
use Rattle.transfer_rows.specs.Actions.{Around, Spot, skips}
use Rattle.transfer_rows.specs.Calculations.{left_numbers}
use Rattle.transfer_rows.specs.Accesses.{has_step, has_number, leads, targets_at, single_of}
use Rattle.transfer_rows.specs.Rows.{aged, released, kept_copy, is_stored, new_copy, stored_cell, after_store, taken, met_where, refined, refined_from, after_refined}
use Rattle.transfer_rows.specs.Reports.{left_by}
use Rattle.transfer_rows.specs.Meanings.{Valuation, MayGive, Fails}
use Rattle.transfer_rows.specs.Covering.{AreIn, AreSized, AreLocalsIn}
use Rattle.transfer_rows.specs.Contributions.{added}
use Rattle.transfer_rows.specs.Premises.{MeetsPremises, HasExample}
use Rattle.transfer_rows.proofs.TableChanges.{inserted_is}
use Rattle.transfer_rows.proofs.Contributing.{added_is}
use Rattle.transfer_rows.proofs.Steps.{none_is_none, nothing_falls}
use Rattle.transfer_rows.proofs.CoverSteps.{none_has, some_same, none_some, changed_after}

-- task 0 holds mutex 0, which is bit 0; cells 0 and 1 are shared, cell 2 is local, and no cell is smashed
pub around : Around
around = record {
  reader = record { task = 0; held = 1; found = 0; priority = λ j. 1 };
  is_shared = λ x. cond (eqb x 2) false true;
  is_smashed = λ x. false;
  is_live = λ t. true;
}

abbrev one_number : ℤ → Values
one_number n = only_numbers (single n)

-- ---- a store: `int x;` with `x=1;`

-- the object 0 has one cell, and the offsets are these
abbrev pointing : Progression → Pointers
pointing offsets = record { null = false; invalid = false; objects = insert map.empty 0 record { size = 1; offsets = offsets } }

abbrev spots : List Spot
spots = record { object = 0; offset = 0; cell = 0 } ∷ []

leads_to : (offsets : Progression) → leads (pointing offsets) 0 0 ≡ has_number offsets (pos 0)
leads_to offsets = ap (λ a. has_number (offsets_or_none a).offsets (pos 0)) (get-insert_here map.empty 0 record { size = 1; offsets = offsets } 0 refl)

-- at offset 1 there is no target: no state, and nothing is added
no_target : targets_at spots (pointing (single (pos 1))) ≡ []
no_target = ap (λ b. cond b (0 ∷ []) []) (leads_to (single (pos 1)))

no_state : (s : State) → after_store around s (one_number (pos 1)) [] ≡ None
no_state s = refl

-- with the offsets 0 and 1 there is one target, and the access is single
one_target : targets_at spots (pointing (row (pos 0) 0 0)) ≡ 0 ∷ []
unfolding has_step
one_target = ap (λ b. cond b (0 ∷ []) []) (leads_to (row (pos 0) 0 0))

is_single : single_of around.is_smashed (0 ∷ []) ≡ Some 0
unfolding around
is_single = refl

-- the cell becomes the value, the mutex that is held is pending, and the cell is fresh; it is shared, so its mark for
-- local cells stays
written_alone : (c : Cell) → stored_cell around (one_number (pos 1)) (0 ∷ []) (single_of around.is_smashed (0 ∷ [])) 0 c ≡ record { value = one_number (pos 1); pending = 1; fresh = true; stored = c.stored }
unfolding around
written_alone c = refl

-- a cell that is no target stays as it is
not_written : (c : Cell) → stored_cell around (one_number (pos 1)) (0 ∷ []) (single_of around.is_smashed (0 ∷ [])) 1 c ≡ c
unfolding around
not_written c = refl

-- a local cell is stored, and nothing is pending there
local_written : (c : Cell) → stored_cell around (one_number (pos 1)) (2 ∷ []) (single_of around.is_smashed (2 ∷ [])) 2 c ≡ record { value = one_number (pos 1); pending = c.pending; fresh = true; stored = true }
unfolding around
local_written c = refl

-- of two targets none is overwritten: each one keeps its value, the mutex becomes pending, and it is as fresh as it was
two_targets : single_of around.is_smashed (0 ∷ 1 ∷ []) ≡ None
unfolding around
two_targets = refl

joined_in : (v : Values) → stored_cell around v (0 ∷ 1 ∷ []) (single_of around.is_smashed (0 ∷ 1 ∷ [])) 1 record { value = one_number (pos 7); pending = 4; fresh = false; stored = false }
    ≡ record { value = joined_values (one_number (pos 7)) v; pending = 5; fresh = false; stored = false }
unfolding around
joined_in v = refl

-- twice the same target is one
twice_one : single_of around.is_smashed (0 ∷ 0 ∷ []) ≡ Some 0
unfolding around
twice_one = refl

-- ---- mutexes

-- a lock ends freshness and copies; a probe that finds the mutex free ends copies alone
lock_ages : (store : Interferences) (c : Cell) → (let d : Cell = aged (taken around store 0 0 c) in d.fresh) ≡ false
lock_ages store c = refl

lock_drops : kept_copy (λ x. true) (Some 0) ≡ None
lock_drops = refl

probe_keeps : (store : Interferences) (c : Cell) → (let d : Cell = taken around store 0 0 c in d.fresh) ≡ c.fresh
probe_keeps store c = refl

-- an unlock of mutex 0 takes it from what is pending and leaves mutex 2 there; what was pending is added to the sync entry
unlock_takes : (c : Cell) → (let d : Cell = released 0 record { value = c.value; pending = 5; fresh = c.fresh; stored = c.stored } in d.pending) ≡ 4
unlock_takes c = refl

unlock_leaves : left_by 0 (Some record { value = one_number (pos 3); pending = 5; fresh = true; stored = false }) ≡ one_number (pos 3)
unlock_leaves = refl

nothing_pending : left_by 1 (Some record { value = one_number (pos 3); pending = 5; fresh = true; stored = false }) ≡ no_value
nothing_pending = refl

-- ---- copies: `int v;if(v>0)r=1/v;`

-- a state with the one cell 2
abbrev with_cell : Cell → State
with_cell c = record { temps = map.empty; cells = insert map.empty 2 c }

cell_of : (c : Cell) → get (with_cell c).cells 2 ≡ Some c
cell_of c = get-insert_here map.empty 2 c 2 refl

abbrev open_cell : Cell
open_cell = record { value = only_numbers (row (negsuc 9) 0 19); pending = 0; fresh = false; stored = false }

-- a load of an open local cell makes no copy, so that a test of what was read refines no cell
open_has_no_copy : new_copy around (with_cell open_cell) (Some 2) ≡ None
unfolding around
open_has_no_copy = ap (λ a. cond (is_stored a) (Some 2) None) (cell_of open_cell)

not_refined : (v : Values) (c : Cell) → met_where None v 2 c ≡ c
not_refined v c = refl

-- once it was stored, a load of it makes one
stored_has_copy : new_copy around (with_cell record { value = one_number (pos 1); pending = 0; fresh = true; stored = true }) (Some 2) ≡ Some 2
unfolding around
stored_has_copy = ap (λ a. cond (is_stored a) (Some 2) None) (cell_of record { value = one_number (pos 1); pending = 0; fresh = true; stored = true })

-- ---- an assumption that empties a local cell

has_one : (w v : ℤ) → Has (single w) v → v ≡ w
unfolding Has
has_one w v h = h

one_has : (w : ℤ) → Has (single w) w
unfolding Has
one_has w = refl

-- a set without a member is none
no_member_none : (v : Values) → IsValues v → ((x : ScalarValue) → IsValueIn v x → ⊥) → is_no_value v ≡ true
no_member_none v v-is none = nothing_falls v no_value v-is none_is
    (value_below_from v no_value v-is (λ object o o' e f. absurd (let g : map.get no_value.pointers.objects object ≡ None = get-empty nat_cmp object in none_some _ o' g f)) (λ x h. absurd (none x h))) none_is_none

-- temporary 0 is 1 and a copy of the local cell 2, of which 2 is the own value: `t==1` has no state
abbrev contradicted : State
contradicted = record { temps = insert map.empty 0 record { value = one_number (pos 1); copy = Some 2 }; cells = insert map.empty 2 record { value = one_number (pos 2); pending = 0; fresh = false; stored = true } }

module _ (v : Values) (v-is : IsValues v) (within : (x : ScalarValue) → IsValueIn v x → x ≡ number (pos 1)) where
  pub nothing_common : is_no_value (met_values (one_number (pos 2)) v) ≡ true
  nothing_common = no_member_none (met_values (one_number (pos 2)) v) (met_values_fit (one_number (pos 2)) v none_is v-is) (λ x h.
      (let both = (in_value_meet (one_number (pos 2)) v (met_values (one_number (pos 2)) v) x (met_values_is (one_number (pos 2)) v)).0 h in
      let e : x ≡ number (pos 1) = within x both.1 in
      let two : Has (single (pos 2)) (pos 1) = subst (IsValueIn (one_number (pos 2))) e both.0 in
      let f = has_one (pos 2) (pos 1) two in
      omega (arith, ints, f)))

partners : (v : ℤ) → HasPartner (Compares Eq) (single (pos 1)) (single (pos 1)) v → Has (single (pos 1)) v
partners v p = p.member

left_is : (x : ScalarValue) → IsValueIn (left_numbers Eq (one_number (pos 1)) (one_number (pos 1))) x → x ≡ number (pos 1)
left_is (number n) h =
    let below = (assumed_is Eq (single (pos 1)) (single (pos 1))).of_left.least (single (pos 1)) partners in
    ap number (has_one (pos 1) n (below.within n h))
left_is (pointer p) h = absurd (none_has (pointer p) h)

emptied : after_refined around contradicted 0 (left_numbers Eq (one_number (pos 1)) (one_number (pos 1))) ≡ None
unfolding around
emptied =
    let v = left_numbers Eq (one_number (pos 1)) (one_number (pos 1)) in
    let c : Cell = record { value = one_number (pos 2); pending = 0; fresh = false; stored = true } in
    let s' = refined contradicted 0 v (Some 2) in
    let own : own_of s' 2 ≡ met_values (one_number (pos 2)) v = ap own_value (changed_after (met_where (Some 2) v) contradicted.cells 2 c (get-insert_here map.empty 2 c 2 refl)) in
    ap (refined_from around contradicted 0 v) (get-insert_here map.empty 0 record { value = one_number (pos 1); copy = Some 2 } 0 refl)
    ∙ ap (λ b. cond b None (Some s')) (or_true (is_no_value v) (is_no_value (own_of s' 2)) (ap is_no_value own ∙ nothing_common v none_is left_is))
  where
    or_true : (a b : Bool) → b ≡ true → (a || b) ≡ true
    or_true true b h = refl
    or_true false b h = h

-- ---- states that meet the premises of the laws

abbrev copy_temp : Temp
copy_temp = record { value = one_number (pos 1); copy = Some 2 }

abbrev address_temp : Temp
address_temp = record { value = only_pointers (pointing (single (pos 0))); copy = None }

abbrev shared_cell : Cell
shared_cell = record { value = one_number (pos 5); pending = 1; fresh = true; stored = false }

abbrev local_cell : Cell
local_cell = record { value = one_number (pos 1); pending = 0; fresh = true; stored = true }

-- temporary 0 is a copy of the local cell 2, temporary 1 leads to the shared cell 0
abbrev state : State
state = record {
  temps = insert (insert map.empty 0 copy_temp) 1 address_temp;
  cells = insert (insert map.empty 0 shared_cell) 2 local_cell;
}

abbrev temps : Valuation
temps t = cond (eqb t 1) (pointer (to 0 0)) (number (pos 1))

temp_0 : get state.temps 0 ≡ Some copy_temp
temp_0 = get-insert_there (insert map.empty 0 copy_temp) 1 address_temp 0 (λ e. omega (arith, e)) ∙ get-insert_here map.empty 0 copy_temp 0 refl

temp_1 : get state.temps 1 ≡ Some address_temp
temp_1 = get-insert_here (insert map.empty 0 copy_temp) 1 address_temp 1 refl

cell_0 : get state.cells 0 ≡ Some shared_cell
cell_0 = get-insert_there (insert map.empty 0 shared_cell) 2 local_cell 0 (λ e. omega (arith, e)) ∙ get-insert_here map.empty 0 shared_cell 0 refl

cell_2 : get state.cells 2 ≡ Some local_cell
cell_2 = get-insert_here (insert map.empty 0 shared_cell) 2 local_cell 2 refl

-- each temporary is one of these
by_temp : (P : ℕ → Temp → Type 0) → P 0 copy_temp → P 1 address_temp → (t : ℕ) (e : Temp) → get state.temps t ≡ Some e → P t e
by_temp P zero_is one_is t e at = elim (cases_eq t 1) [
  | inl one ↦ subst (λ k. P k e) (sym one) (subst (P 1) (some_same (get state.temps 1) address_temp e temp_1 (ap (get state.temps) (sym one) ∙ at)) one_is)
  | inr other ↦ elim (cases_eq t 0) [
    | inl zero_at ↦ subst (λ k. P k e) (sym zero_at) (subst (P 0) (some_same (get state.temps 0) copy_temp e temp_0 (ap (get state.temps) (sym zero_at) ∙ at)) zero_is)
    | inr none ↦ absurd (none_some (get state.temps t) e (get-insert_there (insert map.empty 0 copy_temp) 1 address_temp t other ∙ get-insert_there map.empty 0 copy_temp t none ∙ get-empty nat_cmp t) at)
  ]
]

leads_here : IsValueIn (only_pointers (pointing (single (pos 0)))) (pointer (to 0 0))
unfolding Has
leads_here = subst (λ a. Has (offsets_or_none a).offsets (pos 0)) (sym (get-insert_here map.empty 0 record { size = 1; offsets = single (pos 0) } 0 refl)) refl

one_is_one : IsValueIn (one_number (pos 1)) (number (pos 1))
unfolding Has
one_is_one = refl

pub are_in : AreIn state temps
are_in = record { in_value = by_temp (λ t e. IsValueIn e.value (temps t)) one_is_one leads_here }

pub copies_agree : AreLocalsIn around.is_shared state temps
unfolding around
copies_agree = record {
  in_own = λ t x c local. by_temp (λ u e. e.copy ≡ Some x → IsValueIn (own_of state x) (temps u)) (λ e. subst (λ k. IsValueIn (own_of state k) (number (pos 1))) (some_same (Some 2) 2 x refl e) (subst (λ a. IsValueIn (own_value a) (number (pos 1))) (sym cell_2) one_is_one))
      (λ e. absurd (none_some None x refl e)) t c.entry c.stands c.copy;
  agree = λ t u x c d local. by_temp (λ k e. e.copy ≡ Some x → temps k ≡ temps u) (λ e. by_temp (λ k f. f.copy ≡ Some x → temps 0 ≡ temps k) (λ f. refl) (λ f. absurd (none_some None x refl f)) u d.entry d.stands d.copy)
      (λ e. absurd (none_some None x refl e)) t c.entry c.stands c.copy;
}

-- each value of a temporary is one of these
by_value : (P : Values → Type 0) → P no_value → P (one_number (pos 1)) → P (only_pointers (pointing (single (pos 0)))) → (t : ℕ) → P (value_of state t)
by_value P none zero_is one_is t = by_entry (get state.temps t) refl
  where
    by_entry : (a : Option Temp) → get state.temps t ≡ a → P (temp_value a)
    by_entry None e = none
    by_entry (Some k) e = by_temp (λ u f. P f.value) zero_is one_is t k e

abbrev AreOne : Values → Type 0
AreOne v = (object : ℕ) (o : OffsetSet) → get v.pointers.objects object ≡ Some o → o.size ≡ 1

no_objects : (object : ℕ) (o : OffsetSet) → get no_pointer.objects object ≡ Some o → o.size ≡ 1
no_objects object o e = absurd (none_some (get no_pointer.objects object) o (get-empty nat_cmp object) e)

one_object : AreOne (only_pointers (pointing (single (pos 0))))
one_object object o e = elim (cases_eq object 0) [
  | inl same ↦ ap (λ (k : OffsetSet). k.size) (sym (some_same _ record { size = 1; offsets = single (pos 0) } o (get-insert_here map.empty 0 record { size = 1; offsets = single (pos 0) } object same) e))
  | inr differ ↦ absurd (none_some (get (pointing (single (pos 0))).objects object) o (get-insert_there map.empty 0 record { size = 1; offsets = single (pos 0) } object differ ∙ get-empty nat_cmp object) e)
]

are_sized : AreSized (λ object. 1) state
are_sized = record { size = λ t. by_value AreOne no_objects no_objects one_object t }

-- values and cells have their forms
in_object : IsValues (only_pointers (pointing (single (pos 0))))
unfolding Has
in_object = inserted_is IsOffsetSet HasNoOffset map.empty 0 record { size = 1; offsets = single (pos 0) }
    record { within = λ v h. record { from = omega (arith, ints, h); to = omega (arith, ints, h) }; none = λ e. absurd (let f : single (pos 0) ≡ no_number = e in cc) } (λ e. (let f : single (pos 0) ≡ no_number = e in cc)) none_is

cells_are : IsTable IsCellForm (λ c. ⊥) state.cells
cells_are = inserted_is IsCellForm (λ c. ⊥) (insert map.empty 0 shared_cell) 2 local_cell none_is (λ n. n) (inserted_is IsCellForm (λ c. ⊥) map.empty 0 shared_cell none_is (λ n. n) (λ x. subst (IsEntry IsCellForm (λ c. ⊥)) (sym (get-empty nat_cmp x)) tt))

temps_are : IsTable IsTempForm (λ t. ⊥) state.temps
temps_are = inserted_is IsTempForm (λ t. ⊥) (insert map.empty 0 copy_temp) 1 address_temp in_object (λ n. n) (inserted_is IsTempForm (λ t. ⊥) map.empty 0 copy_temp none_is (λ n. n) (λ x. subst (IsEntry IsTempForm (λ t. ⊥)) (sym (get-empty nat_cmp x)) tt))

in_int : (n : ℕ) → n < 9 → IsIn Int (pos n)
in_int n h = record { at_least = omega (arith, ints); at_most = omega (arith, ints, h) }

five : IsValueIn (one_number (pos 5)) (number (pos 5))
unfolding Has
five = refl

pub example : HasExample
unfolding around MayGive Fails added
example = record { around = around; sizes = λ object. 1; state = state; temps = temps; meets = meets }
  where
    meets : MeetsPremises around (λ object. 1) state temps
    meets = record {
      inside = are_in;
      form = record { temps = temps_are; cells = cells_are };
      store = added_is around state (record { temps = temps_are; cells = cells_are }) skips;
      sized = are_sized;
      agree = record { sizes = λ t object o o' e f. ap (λ (k : OffsetSet). k.size) (some_same _ o o' e f) };
      locals = copies_agree;
      copied = record { entry = copy_temp; stands = temp_0; copy = refl };
      local = refl;
      operand = record { entry = copy_temp; stands = temp_0 };
      address = record { entry = address_temp; stands = temp_1 };
      leads = refl;
      spot = inl refl;
      cell = record { entry = shared_cell; stands = cell_0 };
      own = subst (λ a. IsValueIn (own_value a) (number (pos 5))) (sym cell_0) five;
      gives = record { x = pos 1; y = pos 1; result = pos 2; is_left = refl; is_right = refl; is_given = refl; in_left = in_int 1 (omega arith); in_right = in_int 1 (omega arith); gives = refl };
      fails = (refl, record { x = to 0 0; is_operand = refl; fails = λ h. false≢true h.0 });
      passes = record { x = pos 1; y = pos 1; at_left = refl; at_right = one_is_one; holds = refl };
      held = refl;
      free = refl;
    }
