-- Operations that raise no cell leave it with numbers that it held, and joins hold none beyond bounds of both sides.
use Rattle.std.proofs.Common.{◌≡◌, ℕ, Bool, true, false, cond, eqb, ◌||◌, Option, Some, None, IfSome, refl, sym}
use Rattle.std.proofs.Common.{subst, ◌∙◌, arith}
use Rattle.std.specs.Prelude.{ℤ, ◌-ℤ◌, ◌≤ℤ◌, nat_abs}
use Rattle.std.specs.FinMap.{get}
use Rattle.std.specs.Option.{option_map}
use Rattle.std.proofs.lemmas.Int.{ints}
use Rattle.strided_dom.specs.Progression.{Progression, empty, Has, IsSubset, IsSpaced}
use Rattle.strided_dom.proofs.low.tm_numbers.Congruences.{cong_up}
use Rattle.pointer_dom.specs.StridedSets.{hull}
use Rattle.pointer_dom.specs.Values.{Values, joined_values}
use Rattle.pointer_dom.specs.laws.OffsetLaws.{hull_least}
use Rattle.pointer_dom.specs.laws.Existence.{spaced_exists}
use Rattle.tm_lattice.specs.Tables.{IsBelow, joined_at}
use Rattle.tm_lattice.specs.laws.SelectedLaws.{changed_at, get-changed_table}
use Rattle.tm_lattice.specs.laws.TableLaws.{get-joined_table}
use Rattle.cell_env.specs.Cells.{joined_cell}
use Rattle.cell_env.specs.States.{joined_state}
use Rattle.interfere_set.specs.Stores.{Interferences}
use Rattle.sparse_rows.specs.transfer_rows.operator_values.MetValues.{met_values, met_values_is}
use Rattle.sparse_rows.specs.transfer_rows.StateForms.{Cell, State, Temp, is_no_value, value_of, own_value, own_of}
use Rattle.sparse_rows.specs.transfer_rows.StateForms.{IsStateUnder, IsCellUnder}
use Rattle.sparse_rows.specs.transfer_rows.Actions.{Around, Action, Filter, Side, temporary, fixed, usable}
use Rattle.sparse_rows.specs.transfer_rows.Actions.{numbers_compare, pointers_compare, skips, gives, refines, loads}
use Rattle.sparse_rows.specs.transfer_rows.Actions.{loads_any, stores, clears, locks, unlocks, yields, probes}
use Rattle.sparse_rows.specs.transfer_rows.Calculations.{usable_values, side_value, left_numbers, right_numbers}
use Rattle.sparse_rows.specs.transfer_rows.Calculations.{left_addresses, right_addresses}
use Rattle.sparse_rows.specs.transfer_rows.Rows.{met_where, refined, refined_from, side_refined, then_refined}
use Rattle.sparse_rows.specs.transfer_rows.Rows.{after_filter, is_contradicted, effect, arrived, after}
use Rattle.sparse_rows.specs.Touched.{IfSame, Passes}
use Rattle.sparse_rows.specs.Carried.{carried_by}
use Rattle.sparse_rows.specs.laws.Frames.{rows_carry}
use Rattle.value_ranges.specs.reading.Notes.{Noted, IsIn}
use Rattle.value_ranges.proofs.Widening.{nothing_in}

-- ## Numbers within bounds

-- each number of the set lies within what is noted
abbrev pub AreWithin : Noted → Progression → Type 0
AreWithin noted s = (n : ℤ) → Has s n → IsIn noted n

spaced_by_one : (low high n : ℤ) → low ≤ℤ n → n ≤ℤ high → IsSpaced low high 1 n
spaced_by_one low high n from to = record {
  from = from;
  to = to;
  congruent = cong_up 1 (nat_abs (n -ℤ low)) n low (omega (arith, ints, from));
}

pub hull_within : (noted : Noted) (s t : Progression) → AreWithin noted s → AreWithin noted t
    → AreWithin noted (hull s t)
hull_within None s t one other n h =
    absurd (nothing_in n ((hull_least s t empty (record { within = λ m k. absurd (one m k) })
    (record { within = λ m k. absurd (other m k) })).within n h))
hull_within (Some b) s t one other n h =
    let all = spaced_exists b.low b.high 1 in
    let within : (u : Progression) → AreWithin (Some b) u → IsSubset u all.0 = λ u are.
    record { within = λ m k. all.1.complete m (spaced_by_one b.low b.high m (are m k).0 (are m k).1) } in
    let is = all.1.sound n ((hull_least s t all.0 (within s one) (within t other)).within n h) in
    (is.from, is.to)

-- ## Numbers of states

-- the one state has no number at a cell that the other has not
abbrev pub HasFewer : State → State → Type 0
HasFewer s t = (x : ℕ) → (let v = own_of s x in let w = own_of t x in IsSubset v.numbers w.numbers)

pub fewer_itself : (s : State) → HasFewer s s
fewer_itself s x = record { within = λ n h. h }

fewer_both : (s t u : State) → HasFewer s t → HasFewer t u → HasFewer s u
fewer_both s t u one other x = record { within = λ n h. (other x).within n ((one x).within n h) }

-- ## Tests

entry_fewer : (f : Cell → Cell) (a : Option Cell)
    → ((c : Cell) → (let d = f c in IsSubset d.value.numbers c.value.numbers))
    → (let v = own_value (option_map f a) in let w = own_value a in IsSubset v.numbers w.numbers)
entry_fewer f None h = record { within = λ n k. k }
entry_fewer f (Some c) h = h c

met_fewer : (copy : Option ℕ) (v : Values) (x : ℕ) (c : Cell)
    → (let d = met_where copy v x c in IsSubset d.value.numbers c.value.numbers)
met_fewer None v x c = record { within = λ n h. h }
met_fewer (Some y) v x c = by_case (eqb x y)
  where
    by_case : (b : Bool)
        → (let d : Cell = cond b (record c { value = met_values c.value v }) c in
        IsSubset d.value.numbers c.value.numbers)
    by_case true = record { within = λ n h. ((met_values_is c.value v).numbers.sound n h).0 }
    by_case false = record { within = λ n h. h }

changed_map : (f : ℕ → Cell → Cell) (x : ℕ) (a : Option Cell) → changed_at f x a ≡ option_map (f x) a
changed_map f x None = refl
changed_map f x (Some c) = refl

refined_fewer : (s : State) (t : ℕ) (v : Values) (copy : Option ℕ) → HasFewer (refined s t v copy) s
refined_fewer s t v copy x =
    subst (λ a. (let u = own_value a in let w = own_of s x in IsSubset u.numbers w.numbers))
    (sym (get-changed_table (met_where copy v) s.cells x ∙ changed_map (met_where copy v) x (get s.cells x)))
    (entry_fewer (met_where copy v x) (get s.cells x) (met_fewer copy v x))

fewer_cond : (b : Bool) (s : State) (y z : Option State) → IfSome y (λ t. HasFewer t s) → IfSome z (λ t. HasFewer t s)
    → IfSome (cond b y z) (λ t. HasFewer t s)
fewer_cond true s y z one other = one
fewer_cond false s y z one other = other

-- an operation that raises nothing
abbrev pub IsQuiet : Action → Type 0
IsQuiet (stores spots address source) = ⊥
IsQuiet (clears cleared) = ⊥
IsQuiet (locks m) = ⊥
IsQuiet (probes m target answer) = ⊥
IsQuiet action = Unit {0}

module _ (around : Around) where
  from_fewer : (s : State) (t : ℕ) (v : Values) (before : Option Temp)
      → IfSome (refined_from around s t v before) (λ u. HasFewer u s)
  from_fewer s t v None = tt
  from_fewer s t v (Some e) = fewer_cond
      (is_no_value v || is_contradicted around (refined s t v e.copy) e.copy) s None
      (Some (refined s t v e.copy)) tt (refined_fewer s t v e.copy)

  side_fewer : (side : Side) (v : Values) (s : State) → IfSome (side_refined around side v s) (λ u. HasFewer u s)
  side_fewer (temporary t) v s = from_fewer s t v (get s.temps t)
  side_fewer (fixed value) v s = fewer_cond (is_no_value v) s None (Some s) tt (fewer_itself s)

  after_both : (s t : State) → HasFewer t s → (y : Option State) → IfSome y (λ u. HasFewer u t)
      → IfSome y (λ u. HasFewer u s)
  after_both s t first None second = tt
  after_both s t first (Some u) second = fewer_both u t s second first

  then_fewer : (side : Side) (v : Values) (s : State) (y : Option State) → IfSome y (λ u. HasFewer u s)
      → IfSome (then_refined around side v y) (λ u. HasFewer u s)
  then_fewer side v s None first = tt
  then_fewer side v s (Some t) first =
      after_both s t first (side_refined around side v t) (side_fewer side v t)

  filter_fewer : (filter : Filter) (s : State) → IfSome (after_filter around s filter) (λ u. HasFewer u s)
  filter_fewer (usable source) s = from_fewer s source (usable_values (value_of s source)) (get s.temps source)
  filter_fewer (numbers_compare op left right) s =
      then_fewer right (right_numbers op (side_value left s) (side_value right s)) s
      (side_refined around left (left_numbers op (side_value left s) (side_value right s)) s)
      (side_fewer left _ s)
  filter_fewer (pointers_compare equal left right) s =
      then_fewer right (right_addresses equal (side_value left s) (side_value right s)) s
      (side_refined around left (left_addresses equal (side_value left s) (side_value right s)) s)
      (side_fewer left _ s)

  -- ## Other operations

  arrived_fewer : (s : State) (y : Option State) → IfSome y (λ u. HasFewer u s)
      → IfSome (option_map (arrived around) y) (λ u. HasFewer u s)
  arrived_fewer s None h = tt
  arrived_fewer s (Some t) h = h

  -- what stands at a cell is what a change that keeps values makes of it
  carried_fewer : (s : State) (change : ℕ → Cell → Cell)
      → ((x : ℕ) (c : Cell) → (let d = change x c in d.value ≡ c.value))
      → (y : Option State) → ((x : ℕ) → IfSame (option_map (change x) (get s.cells x)) x y)
      → IfSome y (λ u. HasFewer u s)
  carried_fewer s change keeps None h = tt
  carried_fewer s change keeps (Some t) h = λ x.
      subst (λ a. (let u = own_value a in let w = own_of s x in IsSubset u.numbers w.numbers)) (sym (h x))
      (entry_fewer (change x) (get s.cells x)
      (λ c. record { within = λ n k. subst (λ (v : Values). Has v.numbers n) (keeps x c) k }))

  module _ (s : State) (store : Interferences) where
    abbrev Fewer : Action → Type 0
    Fewer action = IfSome (after around action s store) (λ u. HasFewer u s)

    by_carry : (action : Action) → ((x : ℕ) → Passes action s x)
        → ((x : ℕ) (c : Cell) → (let d = carried_by around action store x c in d.value ≡ c.value)) → Fewer action
    by_carry action passes keeps =
        carried_fewer s (carried_by around action store) keeps (after around action s store)
        (λ x. rows_carry x around action s store (passes x))

    pub quiet_fewer : (action : Action) → IsQuiet action → Fewer action
    unfolding effect Passes carried_by
    quiet_fewer skips quiet = by_carry skips (λ x. tt) (λ x c. refl)
    quiet_fewer (gives target calculation) quiet = by_carry (gives target calculation) (λ x. tt) (λ x c. refl)
    quiet_fewer (refines filter) quiet = arrived_fewer s (after_filter around s filter) (filter_fewer filter s)
    quiet_fewer (loads spots target address) quiet = by_carry (loads spots target address) (λ x. tt) (λ x c. refl)
    quiet_fewer (loads_any spots target address range) quiet =
        by_carry (loads_any spots target address range) (λ x. tt) (λ x c. refl)
    quiet_fewer (stores spots address source) quiet = absurd quiet
    quiet_fewer (clears cleared) quiet = absurd quiet
    quiet_fewer (locks m) quiet = absurd quiet
    quiet_fewer (unlocks m) quiet = by_carry (unlocks m) (λ x. tt) (λ x c. refl)
    quiet_fewer yields quiet = by_carry yields (λ x. tt) (λ x c. refl)
    quiet_fewer (probes m target answer) quiet = absurd quiet

-- ## Order and joins

below_fewer : (a b : Option Cell) → IsBelow IsCellUnder a b
    → (let v = own_value a in let w = own_value b in IsSubset v.numbers w.numbers)
below_fewer None b le = record { within = λ n h. absurd (nothing_in n h) }
below_fewer (Some c) None le = absurd le
below_fewer (Some c) (Some d) le = le.value.numbers

pub under_fewer : (s t : State) → IsStateUnder s t → HasFewer s t
under_fewer s t le x = below_fewer (get s.cells x) (get t.cells x) (le.cells x)

entries_within : (noted : Noted) (a b : Option Cell)
    → (let v = own_value a in AreWithin noted v.numbers) → (let w = own_value b in AreWithin noted w.numbers)
    → (let u = own_value (joined_at (joined_cell joined_values) a b) in AreWithin noted u.numbers)
entries_within noted None b one other = other
entries_within noted (Some c) None one other = one
entries_within noted (Some c) (Some d) one other = hull_within noted c.value.numbers d.value.numbers one other

pub joined_within : (noted : Noted) (s t : State) (x : ℕ)
    → (let v = own_of s x in AreWithin noted v.numbers) → (let w = own_of t x in AreWithin noted w.numbers)
    → (let j = joined_state joined_values s t in let u = own_of j x in AreWithin noted u.numbers)
joined_within noted s t x one other =
    subst (λ a. (let u = own_value a in AreWithin noted u.numbers))
    (sym (get-joined_table (joined_cell joined_values) s.cells t.cells x))
    (entries_within noted (get s.cells x) (get t.cells x) one other)
