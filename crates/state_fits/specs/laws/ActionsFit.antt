-- An action that fits leads from a state that fits to states that fit.
use Rattle.std.specs.Prelude.{◌≡◌, ℕ, Bool, true, false, cond, ◌||◌, ◌-◌, ◌^◌, bit_and, List, [], ◌∷◌}
use Rattle.std.specs.Prelude.{Option, Some, None, pos, refl}
use Rattle.std.proofs.Common.{sym, subst, ◌∙◌, inl, inr, arith}
use Rattle.std.specs.FinMap.{get}
use Rattle.std.proofs.lemmas.Bool.{true≢false, false≢true}
use Rattle.std.proofs.lemmas.Nat.Bits.{bit_at_and, bit_at_or, same_from_bits}
use Rattle.value_heights.specs.strided_dom.Progression.{Progression, single, IsSubset}
use Rattle.temporary_types.specs.tm_laid.Layouts.{LaidTree, abstract_at}
use Rattle.value_heights.specs.pointer_dom.PointerSets.{Pointers, no_pointer, IsPointersBelow}
use Rattle.value_heights.specs.pointer_dom.Values.{Values, IsValues, IsValuesBelow}
use Rattle.value_heights.specs.pointer_dom.laws.PointerLaws.{pointers_order, pointers_nothing}
use Rattle.typed_values.proofs.low.filters.PointerLaws.{none_added}
use Rattle.edge_actions.specs.cell_env.Cells.{IsWithin}
use Rattle.edge_actions.specs.cell_env.laws.Bits.{within_trans, within_le}
use Rattle.edge_actions.specs.interfere_set.Stores.{Interferences}
use Rattle.edge_actions.specs.interfere_set.laws.Joins.{none_is, IsOf}
use Rattle.typed_values.specs.operator_values.Integers as I
use Rattle.typed_values.specs.operator_values.Integers.{assumed_is}
use Rattle.typed_values.specs.operator_values.SetsOfPointers.{left_pointers, right_pointers, pointers_are_assumed}
use Rattle.typed_values.specs.operator_values.SetsOfPointers.{left_pointers_fit, right_pointers_fit}
use Rattle.edge_actions.specs.transfer_rows.StateForms.{Temp, Cell, State, IsStateForm, only_numbers, only_pointers}
use Rattle.edge_actions.specs.transfer_rows.StateForms.{value_of}
use Rattle.edge_actions.specs.Layouts.{is_shared_cell}
use Rattle.edge_actions.specs.transfer_rows.Actions.{Around, Side, temporary, fixed, Filter, usable, numbers_compare}
use Rattle.edge_actions.specs.transfer_rows.Actions.{pointers_compare}
use Rattle.edge_actions.specs.transfer_rows.Actions.{Action, skips, gives, refines, loads, loads_any, stores, clears}
use Rattle.edge_actions.specs.transfer_rows.Actions.{locks, unlocks, yields, probes}
use Rattle.edge_actions.specs.transfer_rows.Calculations.{calculated, usable_values, side_value, left_numbers}
use Rattle.edge_actions.specs.transfer_rows.Calculations.{right_numbers, left_addresses, right_addresses}
use Rattle.edge_actions.specs.transfer_rows.Accesses.{leads, is_among, targets_at, single_of}
use Rattle.edge_actions.specs.transfer_rows.Actions.{Spot}
use Rattle.edge_actions.specs.transfer_rows.Rows.{is_stored, aged, released, is_cleared, cleared_to, found_in, loaded}
use Rattle.edge_actions.specs.transfer_rows.Rows.{new_copy}
use Rattle.edge_actions.specs.transfer_rows.Rows.{after_load_any, stored_cell, after_store}
use Rattle.edge_actions.specs.transfer_rows.Rows.{taken, after_lock, after_free, after_unlock, holds, side_refined}
use Rattle.edge_actions.specs.transfer_rows.Rows.{then_refined, after_filter, effect, arrived, after, without}
use Rattle.edge_actions.proofs.low.transfer_rows.TableChanges.{get-kept}
use Rattle.edge_actions.specs.transfer_rows.Meanings.{IsSpotOf}
use Rattle.edge_actions.proofs.low.transfer_rows.Steps.{among_here, among_there, among_cons, single_is}
use Rattle.typed_values.specs.Types.{AreObjects, IsOfType}
use Rattle.typed_values.specs.laws.ObjectsKept.{none_objects, left_objects, right_objects}
use Rattle.state_fits.specs.Fits.{AreKinds, file_set, FitsTemp, IsSeenCell, IsSeenCopy, FitsCopy, IsCellOf, FitsPlace}
use Rattle.state_fits.specs.laws.StoresFit.{all_is, AreTyped}
use Rattle.state_fits.specs.laws.EffectsFit as E
use Rattle.state_fits.specs.laws.EffectsFit.{IsNext, NextTemp, MayBeNext}

-- the temporary that an action gives
unfoldable pub target_of : Action → Option ℕ
target_of (gives target calculation) = Some target
target_of (loads spots target address) = Some target
target_of (loads_any spots target address range) = Some target
target_of (probes m target answer) = Some target
target_of action = None

among_of : (xs : List ℕ) (x : ℕ) → IsOf xs x → is_among xs x ≡ true
among_of [] x h = absurd h
among_of (y ∷ xs) x (inl here) = among_here x y xs here
among_of (y ∷ xs) x (inr there) = among_there x y xs (among_of xs x there)

and_within : (p k : ℕ) → IsWithin (bit_and p k) p
and_within p k = same_from_bits _ _ (λ i. omega (arith, bit_at_or (bit_and p k) p i, bit_at_and p k i))

-- what is among the targets of an access is the cell of a spot
pub spot_of : (spots : List Spot) (p : Pointers) (x : ℕ) → is_among (targets_at spots p) x ≡ true
    → (spot : Spot) × ((IsSpotOf spots spot) × (x ≡ spot.cell))
spot_of [] p x h = absurd (false≢true h)
spot_of (spot ∷ spots) p x h = by_lead (λ k. spot_of spots p x k) (leads p spot.object spot.offset) h
  where
    by_lead : (is_among (targets_at spots p) x ≡ true → (s : Spot) × ((IsSpotOf spots s) × (x ≡ s.cell))) → (b : Bool)
        → is_among (cond b (spot.cell ∷ targets_at spots p) (targets_at spots p)) x ≡ true
        → (s : Spot) × ((IsSpotOf (spot ∷ spots) s) × (x ≡ s.cell))
    by_lead later true k = elim (among_cons spot.cell x (targets_at spots p) k) [
      | inl here ↦ (spot, (inl refl, here))
      | inr there ↦ let r = later there in (r.0, (inr r.1.0, r.1.1))
    ]
    by_lead later false k = let r = later k in (r.0, (inr r.1.0, r.1.1))

module _ (laid : LaidTree) where
  -- a side that stands for itself is a set of values of the program
  abbrev pub SideFits : Side → Type 0
  SideFits (temporary number) = Unit {0}
  SideFits (fixed value) = IsValues value × AreObjects laid value.pointers

  abbrev pub FilterFits : Filter → Type 0
  FilterFits (usable source) = Unit {0}
  FilterFits (numbers_compare op left right) = Unit {0}
  FilterFits (pointers_compare equal left right) = SideFits left × SideFits right

module _ (laid : LaidTree) (Holds : ℕ → Values → Type 0) where
  -- what the action gives in the state its temporary may hold, and is of the types of cells
  unfoldable pub ActionFits : State → Action → Type 0
  ActionFits s (gives target calculation) = Holds target (calculated calculation s)
  ActionFits s (refines filter) = FilterFits laid filter
  ActionFits s (loads spots target address) = (x : ℕ) (v : Values)
      → is_among (targets_at spots (value_of s address).pointers) x ≡ true
      → (let a = abstract_at laid x in IsOfType laid a.scalar v) → Holds target v
  ActionFits s (loads_any spots target address range) = Holds target range
  ActionFits s (stores spots address source) = (x : ℕ) (v : Values)
      → is_among (targets_at spots (value_of s address).pointers) x ≡ true
      → Holds source v → (let a = abstract_at laid x in IsOfType laid a.scalar v)
  ActionFits s (clears cleared) = (x : ℕ) (v : Values) → cleared x ≡ Some v
      → (let a = abstract_at laid x in IsOfType laid a.scalar v)
  ActionFits s (probes m target answer) =
      Holds target (only_numbers (single (pos 1)))
      × Holds target (only_numbers (single (pos 0)))
  ActionFits s action = Unit {0}

-- the cells that an action may load from are seen by the body
abbrev pub LoadsSeen : LaidTree → ℕ → Action → Type 0
LoadsSeen laid task (loads spots target address) = (spot : Spot) → IsSpotOf spots spot → IsSeenCell laid task spot.cell
LoadsSeen laid task action = Unit {0}

module _ (laid : LaidTree) (task : ℕ) (Holds : ℕ → Values → Type 0) (kinds : AreKinds laid Holds)
    (around : Around) where
  abbrev Next : Option ℕ → State → Type 0
  Next target s = IsNext laid task Holds kinds around.is_live target s

  abbrev May : Option State → Type 0
  May a = MayBeNext laid task Holds kinds around.is_live a

  -- ## Filters

  side_is : (side : Side) (s : State) → Next None s → SideFits laid side → IsValues (side_value side s)
      × AreObjects laid (side_value side s).pointers
  side_is (temporary t) s h fits =
      let typed = E.value_typed laid task Holds kinds around.is_live None s h t in
      (kinds.values t (value_of s t) typed, kinds.objects t (value_of s t) typed)
  side_is (fixed value) s h fits = fits

  -- what is left of a side is of the type of its temporary
  abbrev SideTyped : Side → Values → Type 0
  SideTyped (temporary t) v = Holds t v
  SideTyped (fixed value) v = Unit {0}

  side_less : (side : Side) (s : State) (v : Values) → Next None s → IsValues v → AreObjects laid v.pointers
      → IsValuesBelow v (side_value side s) → SideTyped side v
  side_less (temporary t) s v h v-is v-are le =
      kinds.less t v (value_of s t) (E.value_typed laid task Holds kinds around.is_live None s h t) v-is
      v-are le
  side_less (fixed value) s v h v-is v-are le = tt

  side_next : (side : Side) (v : Values) (s : State) → Next None s → SideTyped side v
      → May (side_refined around side v s)
  side_next (temporary t) v s h typed = E.refine_next laid task Holds kinds around.is_live around s t v h typed
  side_next (fixed value) v s h typed =
      E.cond_next laid task Holds kinds around.is_live
      (Rattle.edge_actions.specs.transfer_rows.StateForms.is_no_value v) s h

  then_next : (side : Side) (v : Values) (a : Option State) → May a → SideTyped side v
      → May (then_refined around side v a)
  then_next side v None h typed = E.none_next laid task Holds kinds around.is_live
  then_next side v (Some s) h typed = side_next side v s (h s refl) typed

  -- some of the numbers of a value, and no pointer
  numbers_less : (n : Progression) (v : Values) → IsValues v → IsSubset n v.numbers → IsValuesBelow (only_numbers n) v
  numbers_less n v v-is le =
      record { numbers = le; pointers = pointers_nothing.below no_pointer v.pointers none_is v-is refl }

  pointers_less : (p : Pointers) (v : Values) → IsPointersBelow p v.pointers → IsValuesBelow (only_pointers p) v
  pointers_less p v le =
      record {
        numbers = record {
          within =
              λ n h. absurd (Rattle.value_heights.proofs.low.strided_dom.Members.not_in_empty n h);
        };
        pointers = le;
      }

  filter_next : (s : State) → Next None s → (filter : Filter) → FilterFits laid filter
      → May (after_filter around s filter)
  filter_next s h (usable source) fits =
      let typed = E.value_typed laid task Holds kinds around.is_live None s h source in
      let v = value_of s source in
      E.refine_next laid task Holds kinds around.is_live around s source (usable_values v) h
      (kinds.less source (usable_values v) v typed (kinds.values source v typed)
      (kinds.objects source v typed)
      record {
        numbers = record { within = λ n k. k };
        pointers = record {
          null = λ k. k;
          invalid = λ k. absurd (let e : false ≡ true = k in cc);
          objects =
              (pointers_order.reflexive v.pointers (kinds.values source v typed)).objects;
        };
      })
  filter_next s h (numbers_compare op left right) fits = sides left right
    where
      sides : (left right : Side)
          → May (then_refined around right (right_numbers op (side_value left s) (side_value right s))
          (side_refined around left (left_numbers op (side_value left s) (side_value right s)) s))
      sides left right =
          let v = side_value left s in
          let w = side_value right s in
          let a = assumed_is op v.numbers w.numbers in
          then_next right (right_numbers op v w) (side_refined around left (left_numbers op v w) s)
          (side_next left (left_numbers op v w) s h
          (numbers_typed left (I.left_assumed op v.numbers w.numbers)
          (a.of_left.least v.numbers (λ k x. x.member))))
          (numbers_typed right (I.right_assumed op v.numbers w.numbers) (a.of_right.least w.numbers (λ k x. x.member)))
        where
          numbers_typed : (side : Side) (n : Progression) → (let v = side_value side s in IsSubset n v.numbers)
              → SideTyped side (only_numbers n)
          numbers_typed (temporary t) n le =
              let typed = E.value_typed laid task Holds kinds around.is_live None s h t in
              kinds.less t (only_numbers n) (value_of s t) typed none_is (none_objects laid)
              (numbers_less n (value_of s t) (kinds.values t (value_of s t) typed) le)
          numbers_typed (fixed value) n le = tt
  filter_next s h (pointers_compare equal left right) fits =
      let v = side_value left s in
      let w = side_value right s in
      let l = side_is left s h fits.0 in
      let r = side_is right s h fits.1 in
      let l-is = left_pointers_fit equal v.pointers w.pointers l.0 r.0 in
      let r-is = right_pointers_fit equal v.pointers w.pointers l.0 r.0 in
      let less = none_added equal v.pointers w.pointers (left_pointers equal v.pointers w.pointers)
      (right_pointers equal v.pointers w.pointers) l.0 r.0 l-is r-is
      (pointers_are_assumed equal v.pointers w.pointers) in
      then_next right (right_addresses equal v w) (side_refined around left (left_addresses equal v w) s)
      (side_next left (left_addresses equal v w) s h
      (side_less left s (left_addresses equal v w) h l-is
      (left_objects laid equal v.pointers w.pointers l.0 r.0 l.1 r.1)
      (pointers_less (left_pointers equal v.pointers w.pointers) v less.0)))
      (side_less right s (right_addresses equal v w) h r-is
      (right_objects laid equal v.pointers w.pointers l.0 r.0 l.1 r.1)
      (pointers_less (right_pointers equal v.pointers w.pointers) w less.1))

  -- ## Effects

  none_left : (p q : ℕ) → IsWithin p q → q ≡ 0 → p ≡ 0
  none_left p q w h = (let le = within_le p q w in omega (arith, le, h))

  released_cell : (m x : ℕ) (c : Cell) → IsCellOf laid x c → IsCellOf laid x (released m c)
  released_cell m x c h = record {
    value = h.value;
    pending = within_trans (without c.pending m) c.pending (file_set laid) (and_within c.pending (65535 - 2 ^ m))
        h.pending;
    local = λ is. none_left (without c.pending m) c.pending (and_within c.pending (65535 - 2 ^ m)) (h.local is);
    shared = h.shared;
  }

  module _ (store : Interferences) (weak : (x : ℕ)
      → (let a = abstract_at laid x in AreTyped laid a.scalar x store.weak))
      (sync : (x : ℕ) → (let a = abstract_at laid x in AreTyped laid a.scalar x store.sync))
      (held_in : IsWithin around.reader.held (file_set laid))
      (shares : (x : ℕ) → around.is_shared x ≡ is_shared_cell laid x)
    where
      any_next : (s : State) (target : ℕ) (xs : List ℕ) (range : Values) → Next (Some target) s
          → Holds target range → May (after_load_any around s target xs range)
      any_next s target [] range h typed = E.none_next laid task Holds kinds around.is_live
      any_next s target (x ∷ xs) range h typed =
          E.given_next laid task Holds kinds around.is_live s target range None h typed tt

      new_seen : (s : State) (a : Option ℕ) → ((x : ℕ) → a ≡ Some x → IsSeenCell laid task x)
          → IsSeenCopy laid task (new_copy around s a)
      new_seen s None seen = tt
      new_seen s (Some x) seen = by_test (around.is_shared x || is_stored (get s.cells x))
        where
          by_test : (b : Bool) → IsSeenCopy laid task (cond b (Some x) None)
          by_test true = seen x refl
          by_test false = tt

      load_next : (s : State) (target : ℕ) (xs : List ℕ) → Next (Some target) s
          → ((x : ℕ) (v : Values) → is_among xs x ≡ true → (let a = abstract_at laid x in IsOfType laid a.scalar v)
          → Holds target v)
          → ((x : ℕ) → is_among xs x ≡ true → IsSeenCell laid task x)
          → May (Rattle.edge_actions.specs.transfer_rows.Rows.after_load around s store target xs)
      load_next s target xs h same seen =
          E.given_next laid task Holds kinds around.is_live s target (loaded around s store xs)
          (new_copy around s (single_of around.is_smashed xs)) h
          (all_is (Holds target) (kinds.none target) (kinds.joined target)
          (λ x. found_in around store x (get s.cells x)) xs (λ x k.
          same x (found_in around store x (get s.cells x)) (among_of xs x k)
          (E.found_typed laid task Holds kinds around.is_live around store weak sync held_in shares x (get s.cells x)
          (h.cells x))))
          (new_seen s (single_of around.is_smashed xs) (λ x at. seen x (single_is around xs x at).2))

      store_next : (s : State) (v : Values) (xs : List ℕ) → Next None s
          → ((x : ℕ) → is_among xs x ≡ true → (let a = abstract_at laid x in IsOfType laid a.scalar v))
          → May (after_store around s v xs)
      store_next s v [] h typed = E.none_next laid task Holds kinds around.is_live
      store_next s v (x ∷ xs) h typed =
          E.some_next laid task Holds kinds around.is_live
          record {
            temps = Rattle.edge_actions.specs.transfer_rows.Rows.dropped (is_among (x ∷ xs)) s.temps;
            cells = Rattle.value_heights.specs.tm_lattice.Tables.changed_table
                (stored_cell around v (x ∷ xs) (single_of around.is_smashed (x ∷ xs))) s.cells;
          }
          (E.ended_next laid task Holds kinds around.is_live s (is_among (x ∷ xs))
          (stored_cell around v (x ∷ xs) (single_of around.is_smashed (x ∷ xs))) h (λ y c k.
          E.stored_fits laid task Holds kinds around.is_live around store weak sync held_in shares v (x ∷
          xs) (single_of around.is_smashed (x ∷ xs)) y c
          (λ b e z at. (single_is around (x ∷ xs) z (e ∙ at)).2) (typed y) k))

      pub effect_next : (s : State) (action : Action) → LoadsSeen laid task action → ActionFits laid Holds s action
          → Next (target_of action) s
          → May (effect around action s store)
      unfolding effect ActionFits target_of
      effect_next s skips r fits h = E.some_next laid task Holds kinds around.is_live s h
      effect_next s (gives target calculation) r fits h =
          E.given_next laid task Holds kinds around.is_live s target (calculated calculation s) None h fits tt
      effect_next s (refines filter) r fits h = filter_next s h filter fits
      effect_next s (loads spots target address) r fits h =
          load_next s target (targets_at spots (value_of s address).pointers) h fits
          (λ x k. let q = spot_of spots (value_of s address).pointers x k in
          subst (IsSeenCell laid task) (sym q.1.1) (r q.0 q.1.0))
      effect_next s (loads_any spots target address range) r fits h =
          any_next s target (targets_at spots (value_of s address).pointers) range h fits
      effect_next s (stores spots address source) r fits h =
          store_next s (value_of s source) (targets_at spots (value_of s address).pointers) h
          (λ x k. fits x (value_of s source) k (E.value_typed laid task Holds kinds around.is_live None s h source))
      effect_next s (clears cleared) r fits h =
          E.some_next laid task Holds kinds around.is_live
          record {
            temps = Rattle.edge_actions.specs.transfer_rows.Rows.dropped (λ x. is_cleared (cleared x))
                s.temps;
            cells = Rattle.value_heights.specs.tm_lattice.Tables.changed_table (λ x. cleared_to (cleared x))
                s.cells;
          }
          (E.ended_next laid task Holds kinds around.is_live s (λ x. is_cleared (cleared x))
          (λ x. cleared_to (cleared x)) h
          (λ x c k. E.cleared_cell laid task Holds kinds around.is_live (cleared x) x c (fits x) k))
      effect_next s (locks m) r fits h =
          E.cond_next laid task Holds kinds around.is_live (holds around m) (after_lock around s store m)
          (E.ended_next laid task Holds kinds around.is_live s (λ x. true) (λ x c. aged (taken around store m x c)) h
          (λ x c k.
          E.aged_cell laid task Holds kinds around.is_live around store weak sync held_in shares x
          (taken around store m x c)
          (E.taken_cell laid task Holds kinds around.is_live around store weak sync held_in shares m x c k)))
      effect_next s (unlocks m) r fits h =
          E.where_next laid task Holds kinds around.is_live (holds around m) (after_unlock s m)
          (E.cells_next laid task Holds kinds around.is_live s (λ x c. released m c) h (released_cell m))
      effect_next s yields r fits h =
          E.some_next laid task Holds kinds around.is_live (Rattle.edge_actions.specs.transfer_rows.Rows.after_yield s)
          (E.cells_next laid task Holds kinds around.is_live s (λ x c. aged c) h
          (E.aged_cell laid task Holds kinds around.is_live around store weak sync held_in shares))
      effect_next s (probes m target true) r fits h =
          E.given_next laid task Holds kinds around.is_live s target (only_numbers (single (pos 1))) None h fits.0 tt
      effect_next s (probes m target false) r fits h =
          E.cond_next laid task Holds kinds around.is_live (holds around m) (after_free around s store m target)
          (E.ended_with laid task Holds kinds around.is_live s target
          record { value = only_numbers (single (pos 0)); copy = None } (λ x. true) (taken around store m) h fits.1 tt
          (E.taken_cell laid task Holds kinds around.is_live around store weak sync held_in shares m))

  -- ## Arrival

  module _ (live : List ℕ) (lives : (t : ℕ) → around.is_live t ≡ is_among live t) where
    entry_fits : (t : ℕ) (a : Option Temp) → is_among live t ≡ true → NextTemp laid task Holds kinds around.is_live t a
        → FitsTemp Holds live t a
    entry_fits t None is h = absurd (true≢false (sym is ∙ (sym (lives t) ∙ h)))
    entry_fits t (Some e) is h = (is, h)

    temp_fits : (t : ℕ) (a : Option Temp) → NextTemp laid task Holds kinds around.is_live t a
        → FitsTemp Holds live t (cond (around.is_live t) a None)
    temp_fits t a h = by_live (is_among live t) refl
      where
        by_live : (b : Bool) → is_among live t ≡ b → FitsTemp Holds live t (cond (around.is_live t) a None)
        by_live true is = subst (λ b. FitsTemp Holds live t (cond b a None)) (sym (lives t ∙ is))
            (entry_fits t a is h)
        by_live false is = subst (λ b. FitsTemp Holds live t (cond b a None)) (sym (lives t ∙ is)) is

    kept_copies : (b : Bool) (a : Option Temp) → FitsCopy laid task a → FitsCopy laid task (cond b a None)
    kept_copies true a h = h
    kept_copies false a h = tt

    -- the state that arrives fits the place at which these temporaries are live
    pub arrived_fits : (s : State) → Next None s → IsStateForm (arrived around s)
        → FitsPlace laid task Holds live (arrived around s)
    arrived_fits s h form = record {
      form = form;
      temps = λ t. subst (FitsTemp Holds live t) (sym (get-kept s.temps around.is_live t))
          (temp_fits t (get s.temps t)
          (h.temps t (λ e. absurd (let k : (let a : Option ℕ = None in a ≡ Some t) = e in cc))));
      copies = λ t. subst (FitsCopy laid task) (sym (get-kept s.temps around.is_live t))
          (kept_copies (around.is_live t) (get s.temps t) (h.copies t));
      cells = h.cells;
    }
