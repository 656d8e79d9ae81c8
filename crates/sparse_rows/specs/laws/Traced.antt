-- Operations, joins and roundings keep copies, fresh cells and pending mutexes among those that may be.
use Rattle.std.specs.Prelude.{◌≡◌, ℕ, Bool, true, false, ◌&&◌, ◌||◌, not, cond, eqb, List, [], ◌∷◌, Option, Some, None}
use Rattle.std.specs.Prelude.{refl, pos, unwrap_or, ◌==◌, ℤ, bit_or, ◌-◌, ◌^◌}
use Rattle.std.proofs.Common.{sym, ap, subst, ◌∙◌, inl, inr, IfSome, arith}
use Rattle.std.specs.Int.{bit_at}
use Rattle.std.proofs.lemmas.Nat.Bits.{same_from_bits, bit_at_or, bit_at_and}
use Rattle.std.specs.FinMap.{get, insert}
use Rattle.std.specs.Option.{option_map}
use Rattle.std.specs.List.{list_any, list_all}
use Rattle.std.proofs.lemmas.Bool.{cases_eq, eq-eqb, false≢true}
use Rattle.std.proofs.lemmas.Option.{none-some}
use Rattle.transfer_rows.specs.cell_env.tm_lattice.Tables.{Table, changed_table, joined_at, rounded_among}
use Rattle.transfer_rows.specs.cell_env.tm_lattice.laws.TableLaws.{get-insert_here, get-insert_there, get-joined_table}
use Rattle.transfer_rows.specs.cell_env.tm_lattice.laws.SelectedLaws.{changed_at, get-changed_table}
use Rattle.transfer_rows.specs.cell_env.Cells.{joined_cell, rounded_cell, IsWithin}
use Rattle.transfer_rows.specs.cell_env.laws.Bits.{within_least, within_trans}
use Rattle.transfer_rows.specs.cell_env.Temps.{joined_temp, joined_copy}
use Rattle.transfer_rows.specs.cell_env.States.{joined_state, rounded_state_at}
use Rattle.transfer_rows.specs.interfere_set.pointer_dom.Values.{Values, joined_values, rounded_values}
use Rattle.transfer_rows.specs.interfere_set.strided_dom.Progression.{single}
use Rattle.transfer_rows.specs.interfere_set.Stores.{Interferences}
use Rattle.transfer_rows.specs.StateForms.{Cell, State, Temp, is_no_value, only_numbers, value_of}
use Rattle.transfer_rows.specs.Accesses.{is_among, targets_at, single_of}
use Rattle.transfer_rows.specs.Actions.{Around, Action, Filter, Side, temporary, fixed, usable, numbers_compare}
use Rattle.transfer_rows.specs.Actions.{pointers_compare, skips, gives, refines, loads, loads_any, stores, clears}
use Rattle.transfer_rows.specs.Actions.{locks, unlocks, yields, probes}
use Rattle.transfer_rows.specs.Calculations.{calculated, usable_values, side_value, left_numbers, right_numbers}
use Rattle.transfer_rows.specs.Calculations.{left_addresses, right_addresses}
use Rattle.transfer_rows.specs.Rows.{given, aged, released, after_unlock, cleared_to, without}
use Rattle.transfer_rows.specs.Rows.{met_where, refined, refined_from, side_refined, then_refined}
use Rattle.transfer_rows.specs.Rows.{after_filter, loaded, new_copy, after_load_any, is_stored}
use Rattle.transfer_rows.specs.Rows.{stored_cell, after_store, taken, after_lock, after_free, is_contradicted, holds}
use Rattle.transfer_rows.specs.Rows.{effect, arrived, after, dropped, is_cleared, kept_copy}
use Rattle.transfer_rows.proofs.TableChanges.{get-kept}
use Rattle.sparse_rows.specs.Traces as traces
use Rattle.sparse_rows.specs.Traces.{Makes}

module _ (copies : ℕ → ℕ → Bool) (fresh : ℕ → Bool) (pending : ℕ → ℕ) where
  abbrev AreCopies : ℕ → Option Temp → Type 0
  AreCopies u a = traces.AreCopies copies fresh pending u a

  abbrev IsFreshAt : ℕ → Option Cell → Type 0
  IsFreshAt x a = traces.IsFreshAt copies fresh pending x a

  abbrev IsPendingAt : ℕ → Option Cell → Type 0
  IsPendingAt x a = traces.IsPendingAt copies fresh pending x a

  abbrev IsTraced : State → Type 0
  IsTraced s = traces.IsTraced copies fresh pending s

  -- ## Tables

  insert_copied : (temps : Table Temp) (n : ℕ) (e : Temp) → AreCopies n (Some e)
      → ((u : ℕ) → AreCopies u (get temps u)) → (u : ℕ) → AreCopies u (get (insert temps n e) u)
  insert_copied temps n e new old u = elim (cases_eq u n) [
    | inl here ↦ subst (AreCopies u) (sym (get-insert_here temps n e u here))
        (subst (λ m. AreCopies m (Some e)) (sym here) new)
    | inr there ↦ subst (AreCopies u) (sym (get-insert_there temps n e u there)) (old u)
  ]

  kept_copied : (test : ℕ → Bool) (copy : Option ℕ) (x : ℕ) → kept_copy test copy ≡ Some x → copy ≡ Some x
  kept_copied test None x is = absurd (none-some x is)
  kept_copied test (Some y) x is = by_test (test y) is
    where
      by_test : (b : Bool) → cond b None (Some y) ≡ Some x → Some y ≡ Some x
      by_test true is' = absurd (none-some x is')
      by_test false is' = is'

  dropped_at : (test : ℕ → Bool) (u : ℕ) (a : Option Temp) → AreCopies u a
      → AreCopies u (changed_at (λ t entry. record entry { copy = kept_copy test entry.copy }) u a)
  dropped_at test u None h = tt
  dropped_at test u (Some e) h = λ x is. h x (kept_copied test e.copy x is)

  dropped_copied : (test : ℕ → Bool) (temps : Table Temp) → ((u : ℕ) → AreCopies u (get temps u))
      → (u : ℕ) → AreCopies u (get (dropped test temps) u)
  dropped_copied test temps h u =
      subst (AreCopies u)
      (sym (get-changed_table (λ t (entry : Temp). record entry { copy = kept_copy test entry.copy }) temps u))
      (dropped_at test u (get temps u) (h u))

  -- a change of cells makes no cell fresh

  changed_fresh : (f : ℕ → Cell → Cell) → ((x : ℕ) (c : Cell) → (c.fresh ≡ true → fresh x ≡ true)
      → IsFreshAt x (Some (f x c))) → (cells : Table Cell)
      → ((x : ℕ) → IsFreshAt x (get cells x)) → (x : ℕ) → IsFreshAt x (get (changed_table f cells) x)
  changed_fresh f ages cells h x =
      subst (IsFreshAt x) (sym (get-changed_table f cells x)) (by (get cells x) (h x))
    where
      by : (a : Option Cell) → IsFreshAt x a → IsFreshAt x (changed_at f x a)
      by None is = tt
      by (Some c) is = ages x c is

  -- nor a mutex pending

  changed_held : (f : ℕ → Cell → Cell) → ((x : ℕ) (c : Cell) → IsWithin c.pending (pending x)
      → IsPendingAt x (Some (f x c))) → (cells : Table Cell)
      → ((x : ℕ) → IsPendingAt x (get cells x)) → (x : ℕ) → IsPendingAt x (get (changed_table f cells) x)
  changed_held f keeps cells h x =
      subst (IsPendingAt x) (sym (get-changed_table f cells x)) (by (get cells x) (h x))
    where
      by : (a : Option Cell) → IsPendingAt x a → IsPendingAt x (changed_at f x a)
      by None is = tt
      by (Some c) is = keeps x c is

  -- ## Operations

  by_cond : (b : Bool) (y z : Option State) → IfSome y IsTraced → IfSome z IsTraced → IfSome (cond b y z) IsTraced
  by_cond true y z one other = one
  by_cond false y z one other = other

  given_traced : (s : State) → IsTraced s → (target : ℕ) (v : Values) (copy : Option ℕ)
      → ((x : ℕ) → copy ≡ Some x → copies target x ≡ true) → IfSome (given s target v copy) IsTraced
  given_traced s h target v copy new =
      by_cond (is_no_value v) None
      (Some (record s { temps = insert s.temps target record { value = v; copy = copy } })) tt
      record {
        copied = insert_copied s.temps target (record { value = v; copy = copy }) new h.copied;
        aged = h.aged;
        held = h.held;
      }

  no_copy : (u x : ℕ) → None ≡ Some x → copies u x ≡ true
  no_copy u x is = absurd (none-some x is)

  cond_fresh : (b : Bool) (x : ℕ) (c d : Cell) → (b ≡ true → IsFreshAt x (Some c)) → IsFreshAt x (Some d)
      → IsFreshAt x (Some (cond b c d))
  cond_fresh true x c d one other = one refl
  cond_fresh false x c d one other = other

  cond_held : (b : Bool) (x : ℕ) (c d : Cell) → (b ≡ true → IsPendingAt x (Some c)) → IsPendingAt x (Some d)
      → IsPendingAt x (Some (cond b c d))
  cond_held true x c d one other = one refl
  cond_held false x c d one other = other

  met_held : (copy : Option ℕ) (v : Values) (x : ℕ) (c : Cell) → IsWithin c.pending (pending x)
      → IsPendingAt x (Some (met_where copy v x c))
  met_held None v x c h = h
  met_held (Some y) v x c h = cond_held (eqb x y) x _ c (λ is. h) h

  met_fresh : (copy : Option ℕ) (v : Values) (x : ℕ) (c : Cell) → (c.fresh ≡ true → fresh x ≡ true)
      → IsFreshAt x (Some (met_where copy v x c))
  met_fresh None v x c h = h
  met_fresh (Some y) v x c h = cond_fresh (eqb x y) x _ c (λ is. h) h

  module _ (around : Around) where
    refined_traced : (s : State) → IsTraced s → (t : ℕ) (v : Values) (before : Option Temp) → AreCopies t before
        → IfSome (refined_from around s t v before) IsTraced
    refined_traced s h t v None is = tt
    refined_traced s h t v (Some e) is =
        by_cond (is_no_value v || is_contradicted around (refined s t v e.copy) e.copy) None
        (Some (refined s t v e.copy)) tt
        record {
          copied = insert_copied s.temps t (record { value = v; copy = e.copy }) is h.copied;
          aged = changed_fresh (met_where e.copy v) (met_fresh e.copy v) s.cells h.aged;
          held = changed_held (met_where e.copy v) (met_held e.copy v) s.cells h.held;
        }

    side_traced : (s : State) → IsTraced s → (side : Side) (v : Values)
        → IfSome (side_refined around side v s) IsTraced
    side_traced s h (temporary t) v = refined_traced s h t v (get s.temps t) (h.copied t)
    side_traced s h (fixed value) v = by_cond (is_no_value v) None (Some s) tt h

    then_traced : (y : Option State) → IfSome y IsTraced → (side : Side) (v : Values)
        → IfSome (then_refined around side v y) IsTraced
    then_traced None h side v = tt
    then_traced (Some s) h side v = side_traced s h side v

    filter_traced : (s : State) → IsTraced s → (filter : Filter) → IfSome (after_filter around s filter) IsTraced
    filter_traced s h (usable source) =
        refined_traced s h source (usable_values (value_of s source)) (get s.temps source) (h.copied source)
    filter_traced s h (numbers_compare op left right) =
        then_traced (side_refined around left (left_numbers op (side_value left s) (side_value right s)) s)
        (side_traced s h left (left_numbers op (side_value left s) (side_value right s))) right
        (right_numbers op (side_value left s) (side_value right s))
    filter_traced s h (pointers_compare equal left right) =
        then_traced (side_refined around left (left_addresses equal (side_value left s) (side_value right s)) s)
        (side_traced s h left (left_addresses equal (side_value left s) (side_value right s))) right
        (right_addresses equal (side_value left s) (side_value right s))

    or_first : (a b : Bool) → a ≡ true → (a || b) ≡ true
    or_first true b h = refl
    or_first false b h = absurd (false≢true h)

    load_copies : (s : State) (target : ℕ) (xs : List ℕ)
        → ((x : ℕ) → is_among xs x ≡ true → copies target x ≡ true) → (x : ℕ)
        → new_copy around s (single_of around.is_smashed xs) ≡ Some x → copies target x ≡ true
    load_copies s target [] within x is = absurd (none-some x is)
    load_copies s target (y ∷ ys) within x is =
        by_single (list_all (eqb y) ys && not (around.is_smashed y)) is
      where
        by_stored : (b : Bool) → cond b (Some y) None ≡ Some x → copies target x ≡ true
        by_stored true e = subst (λ z. copies target z ≡ true) (ap (λ (o : Option ℕ). unwrap_or o y) e)
            (within y (or_first (eqb y y) (is_among ys y) (eq-eqb y y refl)))
        by_stored false e = absurd (none-some x e)

        by_single : (b : Bool) → new_copy around s (cond b (Some y) None) ≡ Some x → copies target x ≡ true
        by_single true e = by_stored (around.is_shared y || is_stored (get s.cells y)) e
        by_single false e = absurd (none-some x e)

    load_any_traced : (s : State) → IsTraced s → (target : ℕ) (ys : List ℕ) (range : Values)
        → IfSome (after_load_any around s target ys range) IsTraced
    load_any_traced s h target [] range = tt
    load_any_traced s h target (y ∷ ys) range = given_traced s h target range None (no_copy target)

    store_ages : (v : Values) (y : ℕ) (ys : List ℕ) → ((x : ℕ) → is_among (y ∷ ys) x ≡ true → fresh x ≡ true)
        → (b : Bool) (x : ℕ) (c : Cell) → (c.fresh ≡ true → fresh x ≡ true)
        → IsFreshAt x (Some (stored_cell around v (y ∷ ys) (cond b (Some y) None) x c))
    store_ages v y ys within true x c h =
        cond_fresh (eqb x y) x _ c (λ is e. within x (or_first (eqb x y) (is_among ys x) is)) h
    store_ages v y ys within false x c h = cond_fresh (is_among (y ∷ ys) x) x _ c (λ is. h) h

    abbrev MayPend : ℕ → Type 0
    MayPend x = traces.MayPend copies fresh pending around x

    cond_within : (b : Bool) (x p q : ℕ) → (b ≡ true → IsWithin p (pending x)) → IsWithin q (pending x)
        → IsWithin (cond b p q) (pending x)
    cond_within true x p q one other = one refl
    cond_within false x p q one other = other

    store_holds : (v : Values) (y : ℕ) (ys : List ℕ) → ((x : ℕ) → is_among (y ∷ ys) x ≡ true → MayPend x)
        → (b : Bool) (x : ℕ) (c : Cell) → IsWithin c.pending (pending x)
        → IsPendingAt x (Some (stored_cell around v (y ∷ ys) (cond b (Some y) None) x c))
    store_holds v y ys within true x c h =
        cond_held (eqb x y) x _ c
        (λ is. cond_within (around.is_shared x) x around.reader.held c.pending
        (within x (or_first (eqb x y) (is_among ys x) is)) h) h
    store_holds v y ys within false x c h =
        cond_held (is_among (y ∷ ys) x) x _ c
        (λ is. cond_within (around.is_shared x) x (bit_or c.pending around.reader.held) c.pending
        (λ shared. within_least c.pending around.reader.held (pending x) h (within x is shared)) h) h

    store_traced : (s : State) → IsTraced s → (v : Values) (ys : List ℕ)
        → ((x : ℕ) → is_among ys x ≡ true → (fresh x ≡ true) × MayPend x)
        → IfSome (after_store around s v ys) IsTraced
    store_traced s h v [] within = tt
    store_traced s h v (y ∷ ys) within = record {
      copied = dropped_copied (is_among (y ∷ ys)) s.temps h.copied;
      aged = changed_fresh (stored_cell around v (y ∷ ys) (single_of around.is_smashed (y ∷ ys)))
          (store_ages v y ys (λ x among. (within x among).0) (list_all (eqb y) ys && not (around.is_smashed y)))
          s.cells h.aged;
      held = changed_held (stored_cell around v (y ∷ ys) (single_of around.is_smashed (y ∷ ys)))
          (store_holds v y ys (λ x among. (within x among).1) (list_all (eqb y) ys && not (around.is_smashed y)))
          s.cells h.held;
    }

    clear_ages : (cleared : Option Values) (x : ℕ) (c : Cell) → (c.fresh ≡ true → fresh x ≡ true)
        → IsFreshAt x (Some (cleared_to cleared c))
    clear_ages None x c h = h
    clear_ages (Some v) x c h = h

    clear_holds : (cleared : Option Values) (x : ℕ) (c : Cell) → IsWithin c.pending (pending x)
        → IsPendingAt x (Some (cleared_to cleared c))
    clear_holds None x c h = h
    clear_holds (Some v) x c h = h

    less_held : (p m : ℕ) → IsWithin (without p m) p
    less_held p m = same_from_bits (bit_or (without p m) p) p (λ i. bit i)
      where
        bit : (i : ℕ) → bit_at (bit_or (without p m) p) i ≡ bit_at p i
        bit i =
            let one = bit_at_or (without p m) p i in
            let other = bit_at_and p (65535 - 2 ^ m) i in
            one ∙ omega (arith, other)

    effect_traced : (action : Action) (s : State) (store : Interferences) → IsTraced s
        → Makes copies fresh pending around action s
        → IfSome (effect around action s store) IsTraced
    unfolding effect Makes
    effect_traced skips s store h makes = h
    effect_traced (gives target calculation) s store h makes =
        given_traced s h target (calculated calculation s) None (no_copy target)
    effect_traced (refines filter) s store h makes = filter_traced s h filter
    effect_traced (loads spots target address) s store h makes =
        given_traced s h target (loaded around s store (targets_at spots (value_of s address).pointers))
        (new_copy around s (single_of around.is_smashed (targets_at spots (value_of s address).pointers)))
        (load_copies s target (targets_at spots (value_of s address).pointers) makes)
    effect_traced (loads_any spots target address range) s store h makes =
        load_any_traced s h target (targets_at spots (value_of s address).pointers) range
    effect_traced (stores spots address source) s store h makes =
        store_traced s h (value_of s source) (targets_at spots (value_of s address).pointers) makes
    effect_traced (clears cleared) s store h makes = record {
      copied = dropped_copied (λ x. is_cleared (cleared x)) s.temps h.copied;
      aged = changed_fresh (λ x. cleared_to (cleared x)) (λ x. clear_ages (cleared x) x) s.cells h.aged;
      held = changed_held (λ x. cleared_to (cleared x)) (λ x. clear_holds (cleared x) x) s.cells h.held;
    }
    effect_traced (locks m) s store h makes =
        by_cond (holds around m) None (Some (after_lock around s store m)) tt record {
          copied = dropped_copied (λ x. true) s.temps h.copied;
          aged = changed_fresh (λ x c. aged (taken around store m x c)) (λ x c was e. absurd (false≢true e)) s.cells
              h.aged;
          held = changed_held (λ x c. aged (taken around store m x c)) (λ x c was. was) s.cells h.held;
        }
    effect_traced (unlocks m) s store h makes =
        by_cond (holds around m) (Some (after_unlock s m)) None record {
          copied = h.copied;
          aged = changed_fresh (λ x c. released m c) (λ x c was. was) s.cells h.aged;
          held = changed_held (λ x c. released m c)
              (λ x c was. within_trans (without c.pending m) c.pending (pending x) (less_held c.pending m) was) s.cells
              h.held;
        } tt
    effect_traced yields s store h makes = record {
      copied = h.copied;
      aged = changed_fresh (λ x c. aged c) (λ x c was e. absurd (false≢true e)) s.cells h.aged;
      held = changed_held (λ x c. aged c) (λ x c was. was) s.cells h.held;
    }
    effect_traced (probes m target true) s store h makes =
        given_traced s h target (only_numbers (single (pos 1))) None (no_copy target)
    effect_traced (probes m target false) s store h makes =
        by_cond (holds around m) None (Some (after_free around s store m target)) tt record {
          copied = insert_copied (dropped (λ x. true) s.temps) target
              (record { value = only_numbers (single (pos 0)); copy = None }) (no_copy target)
              (dropped_copied (λ x. true) s.temps h.copied);
          aged = changed_fresh (taken around store m) (λ x c was. was) s.cells h.aged;
          held = changed_held (taken around store m) (λ x c was. was) s.cells h.held;
        }

    retained : (b : Bool) (u : ℕ) (a : Option Temp) → AreCopies u a → AreCopies u (cond b a None)
    retained true u a h = h
    retained false u a h = tt

    arrived_traced : (y : Option State) → IfSome y IsTraced → IfSome (option_map (arrived around) y) IsTraced
    arrived_traced None h = tt
    arrived_traced (Some t) h = record {
      copied = λ u. subst (AreCopies u) (sym (get-kept t.temps around.is_live u))
          (retained (around.is_live u) u (get t.temps u) (h.copied u));
      aged = h.aged;
      held = h.held;
    }

    pub after_traced : (action : Action) (s : State) (store : Interferences) → IsTraced s
        → Makes copies fresh pending around action s
        → IfSome (after around action s store) IsTraced
    after_traced action s store h makes =
        arrived_traced (effect around action s store) (effect_traced action s store h makes)

  -- ## Joins and roundings

  joined_copied : (u : ℕ) (a b : Option Temp) → AreCopies u a → AreCopies u b
      → AreCopies u (joined_at (joined_temp joined_values) a b)
  joined_copied u None b h k = k
  joined_copied u (Some e) None h k = h
  joined_copied u (Some e) (Some g) h k = λ x is. h x (by e.copy g.copy x is)
    where
      by : (p q : Option ℕ) (x : ℕ) → joined_copy p q ≡ Some x → p ≡ Some x
      by None q x is = absurd (none-some x is)
      by (Some y) None x is = absurd (none-some x is)
      by (Some y) (Some z) x is = same (eqb y z) is
        where
          same : (b : Bool) → cond b (Some y) None ≡ Some x → Some y ≡ Some x
          same true e = e
          same false e = absurd (none-some x e)

  joined_fresh : (x : ℕ) (a b : Option Cell) → IsFreshAt x a → IsFreshAt x b
      → IsFreshAt x (joined_at (joined_cell joined_values) a b)
  joined_fresh x None b h k = k
  joined_fresh x (Some c) None h k = h
  joined_fresh x (Some c) (Some d) h k = λ is. h (first c.fresh d.fresh is)
    where
      first : (a b : Bool) → (a && b) ≡ true → a ≡ true
      first true b is = refl
      first false b is = absurd (false≢true is)

  joined_held : (x : ℕ) (a b : Option Cell) → IsPendingAt x a → IsPendingAt x b
      → IsPendingAt x (joined_at (joined_cell joined_values) a b)
  joined_held x None b h k = k
  joined_held x (Some c) None h k = h
  joined_held x (Some c) (Some d) h k = within_least c.pending d.pending (pending x) h k

  pub joined_traced : (s t : State) → IsTraced s → IsTraced t → IsTraced (joined_state joined_values s t)
  joined_traced s t h k = record {
    copied = λ u. subst (AreCopies u) (sym (get-joined_table (joined_temp joined_values) s.temps t.temps u))
        (joined_copied u (get s.temps u) (get t.temps u) (h.copied u) (k.copied u));
    aged = λ x. subst (IsFreshAt x) (sym (get-joined_table (joined_cell joined_values) s.cells t.cells x))
        (joined_fresh x (get s.cells x) (get t.cells x) (h.aged x) (k.aged x));
    held = λ x. subst (IsPendingAt x) (sym (get-joined_table (joined_cell joined_values) s.cells t.cells x))
        (joined_held x (get s.cells x) (get t.cells x) (h.held x) (k.held x));
  }

  rounded_ages : (round : Cell → Cell) → ((c : Cell) → (let d = round c in d.fresh ≡ c.fresh)) → (keys : List ℕ)
      → (x : ℕ) (c : Cell) → (c.fresh ≡ true → fresh x ≡ true) → IsFreshAt x (Some (rounded_among round keys x c))
  rounded_ages round same keys x c h =
      cond_fresh (list_any (λ k. k == x) keys) x (round c) c (λ is e. h (sym (same c) ∙ e)) h

  rounded_holds : (round : Cell → Cell) → ((c : Cell) → (let d = round c in d.pending ≡ c.pending)) → (keys : List ℕ)
      → (x : ℕ) (c : Cell) → IsWithin c.pending (pending x) → IsPendingAt x (Some (rounded_among round keys x c))
  rounded_holds round same keys x c h =
      cond_held (list_any (λ k. k == x) keys) x (round c) c
      (λ is. subst (λ p. IsWithin p (pending x)) (sym (same c)) h) h

  pub rounded_traced : (marks : List ℤ) (keys : List ℕ) (s : State) → IsTraced s
      → IsTraced (rounded_state_at (rounded_values marks) keys s)
  rounded_traced marks keys s h = record {
    copied = h.copied;
    aged = changed_fresh (rounded_among (rounded_cell (rounded_values marks)) keys)
        (rounded_ages (rounded_cell (rounded_values marks)) (λ c. refl) keys) s.cells h.aged;
    held = changed_held (rounded_among (rounded_cell (rounded_values marks)) keys)
        (rounded_holds (rounded_cell (rounded_values marks)) (λ c. refl) keys) s.cells h.held;
  }
