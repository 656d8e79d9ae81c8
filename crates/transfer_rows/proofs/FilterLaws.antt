-- Filters cover the steps on which control goes on.
use Rattle.std.specs.Prelude.{◌≡◌, ◌≢◌, ℕ, Bool, true, false, ◌||◌, not, cond, eqb, IsTrue, Option, Some, None, refl}
use Rattle.std.proofs.Common.{sym, ap, subst, ◌∙◌, inl, inr}
use Rattle.std.specs.Option.{option_map}
use Rattle.std.specs.Int.{bit_at}
use Rattle.std.specs.FinMap.{get}
use Rattle.std.proofs.lemmas.Bool.{eqb-true, cases_eq, cases_Bool, and_left, and_right}
use Rattle.cell_env.specs.tm_lattice.laws.TableLaws.{get-insert_here, get-insert_there}
use Rattle.interfere_set.specs.pointer_dom.Pointer.{invalid, ScalarValue, number, pointer}
use Rattle.interfere_set.specs.pointer_dom.Values.{Values, IsValueIn}
use Rattle.interfere_set.proofs.low.pointer_dom.Meaning.{in_value_meet}
use Rattle.interfere_set.proofs.low.pointer_dom.OperationMeaning.{usable_holds}
use Rattle.operator_values.proofs.low.filters.PointerLaws.{pair_kept}
use Rattle.interfere_set.specs.Stores.{Interferences}
use Rattle.operator_values.specs.Integers.{assumed_is}
use Rattle.operator_values.specs.SetsOfPointers.{pointers_are_assumed, left_pointers, right_pointers}
use Rattle.operator_values.specs.MetValues.{met_values, met_values_is}
use Rattle.transfer_rows.specs.StateForms.{Temp, Cell, State, is_no_value, own_value, value_of, own_of}
use Rattle.transfer_rows.specs.Actions.{Around, Side, temporary, fixed, Filter, usable, numbers_compare, pointers_compare, refines}
use Rattle.transfer_rows.specs.Calculations.{usable_values, side_value, left_numbers, right_numbers, left_addresses, right_addresses}
use Rattle.transfer_rows.specs.Rows.{met_where, refined, is_contradicted, refined_from, after_refined, side_refined, then_refined, after_filter, effect, arrived, after}
use Rattle.transfer_rows.specs.Meanings.{Valuation, IsAtSide, IsAt, IsFiltered, Passes}
use Rattle.transfer_rows.specs.Covering.{AreIn, HasTemp, IsCopyOf, AreLocalsIn, CoversCalculation, LeadsTo}
use Rattle.transfer_rows.proofs.CoverSteps.{member_some, some_same, in_temp, own_changed, pending_changed, fresh_changed, stored_changed, live_in, live_copy}

module _ (around : Around) (temps : Valuation) where
  -- an own value that is met with a set that has the member keeps it
  own_met : (copy : Option ℕ) (v : Values) (x : ℕ) (c : Cell) (w : ScalarValue) → (copy ≡ Some x → IsValueIn v w) → IsValueIn c.value w → IsValueIn (met_where copy v x c).value w
  own_met None v x c w met h = h
  own_met (Some y) v x c w met h = by_test (eqb x y) refl
    where
      by_test : (b : Bool) → eqb x y ≡ b → IsValueIn (own_value (Some (cond b (record c { value = met_values c.value v }) c))) w
      by_test true is = (in_value_meet c.value v (met_values c.value v) w (met_values_is c.value v)).1 (h, met (ap Some (sym (eqb-true x y is))))
      by_test false is = h

  met_pending : (copy : Option ℕ) (v : Values) (x : ℕ) (c : Cell) (m : ℕ) → bit_at c.pending m ≡ 1 → bit_at (met_where copy v x c).pending m ≡ 1
  met_pending None v x c m h = h
  met_pending (Some y) v x c m h = by_test (eqb x y)
    where
      by_test : (b : Bool) → bit_at (let d : Cell = cond b (record c { value = met_values c.value v }) c in d.pending) m ≡ 1
      by_test true = h
      by_test false = h

  met_fresh : (copy : Option ℕ) (v : Values) (x : ℕ) (c : Cell) → IsTrue (met_where copy v x c).fresh → IsTrue c.fresh
  met_fresh None v x c h = h
  met_fresh (Some y) v x c h = by_test (eqb x y) h
    where
      by_test : (b : Bool) → IsTrue (let d : Cell = cond b (record c { value = met_values c.value v }) c in d.fresh) → IsTrue c.fresh
      by_test true k = k
      by_test false k = k

  met_stored : (copy : Option ℕ) (v : Values) (x : ℕ) (c : Cell) → IsTrue (met_where copy v x c).stored → IsTrue c.stored
  met_stored None v x c h = h
  met_stored (Some y) v x c h = by_test (eqb x y) h
    where
      by_test : (b : Bool) → IsTrue (let d : Cell = cond b (record c { value = met_values c.value v }) c in d.stored) → IsTrue c.stored
      by_test true k = k
      by_test false k = k

  module _ (s : State) (t : ℕ) (e : Temp) (v : Values) (here : get s.temps t ≡ Some e) (in-v : IsValueIn v (temps t)) (ins : AreIn s temps) (locals : AreLocalsIn around.is_shared s temps) where
    abbrev met_state : State
    met_state = refined s t v e.copy

    abbrev f : ℕ → Cell → Cell
    f = met_where e.copy v

    own_kept : (x : ℕ) (w : ScalarValue) → IsValueIn (own_of s x) w → (e.copy ≡ Some x → temps t ≡ w) → IsValueIn (own_of met_state x) w
    own_kept x w h agree = own_changed s f x w (λ c at k. own_met e.copy v x c w (λ is. subst (IsValueIn v) (agree is) in-v) k) h

    not_contradicted : (copy : Option ℕ) → e.copy ≡ copy → is_contradicted around met_state copy ≡ false
    not_contradicted None is = refl
    not_contradicted (Some x) is = elim (cases_Bool (around.is_shared x)) [
      | inl shared ↦ and_left _ _ (ap not shared)
      | inr local ↦ and_right _ _ (member_some (own_of met_state x) (temps t) (own_kept x (temps t) (locals.in_own t x (record { entry = e; stands = here; copy = is }) local) (λ k. refl)))
    ]

    both_false : (a b : Bool) → a ≡ false → b ≡ false → (a || b) ≡ false
    both_false true b p q = p
    both_false false b p q = q

    pub refine_reaches : after_refined around s t v ≡ Some met_state
    refine_reaches = ap (refined_from around s t v) here ∙ ap (λ b. cond b None (Some met_state)) (both_false (is_no_value v) (is_contradicted around met_state e.copy) (member_some v (temps t) in-v) (not_contradicted e.copy refl))

    copy_before : (u x : ℕ) → IsCopyOf met_state u x → IsCopyOf s u x
    copy_before u x is = elim (cases_eq u t) [
      | inl same ↦ record { entry = e; stands = ap (get s.temps) same ∙ here; copy = ap (λ (k : Temp). k.copy) (some_same (get met_state.temps u) _ _ (get-insert_here s.temps t record { value = v; copy = e.copy } u same) is.stands) ∙ is.copy }
      | inr differ ↦ record { entry = is.entry; stands = sym (get-insert_there s.temps t record { value = v; copy = e.copy } u differ) ∙ is.stands; copy = is.copy }
    ]

    pub refine_covers : CoversCalculation s met_state temps temps
    refine_covers = record {
      inside = record {
        in_value = λ u g at. elim (cases_eq u t) [
          | inl same ↦ subst (λ (k : Temp). IsValueIn k.value (temps u)) (some_same (get met_state.temps u) _ g (get-insert_here s.temps t record { value = v; copy = e.copy } u same) at) (subst (λ k. IsValueIn v (temps k)) (sym same) in-v)
          | inr differ ↦ ins.in_value u g (sym (get-insert_there s.temps t record { value = v; copy = e.copy } u differ) ∙ at)
        ];
      };
      own = λ x w h agree. own_kept x w h (λ is. agree t (record { entry = e; stands = here; copy = is }));
      copies = λ u x is. (copy_before u x is, refl);
      pending = λ x m p. pending_changed s f met_state.temps x m (λ c k. met_pending e.copy v x c m k) p;
      fresh = λ x p. fresh_changed s f met_state.temps x (λ c k. met_fresh e.copy v x c k) p;
      stored = λ x p. stored_changed s f met_state.temps x (λ c k. met_stored e.copy v x c k) p;
    }

    pub refine_locals : AreLocalsIn around.is_shared met_state temps
    refine_locals = record {
      in_own = λ u x is local.
          (let before = copy_before u x is in
          own_kept x (temps u) (locals.in_own u x before local) (λ same_cell. locals.agree t u x (record { entry = e; stands = here; copy = same_cell }) before local));
      agree = λ u w x is is' local. locals.agree u w x (copy_before u x is) (copy_before w x is') local;
    }

    pub still_live : (u : ℕ) → HasTemp s u → HasTemp met_state u
    still_live u h = elim (cases_eq u t) [
      | inl same ↦ record { entry = record { value = v; copy = e.copy }; stands = get-insert_here s.temps t record { value = v; copy = e.copy } u same }
      | inr differ ↦ record { entry = h.entry; stands = get-insert_there s.temps t record { value = v; copy = e.copy } u differ ∙ h.stands }
    ]

  same_covers : (s : State) → AreIn s temps → CoversCalculation s s temps temps
  same_covers s ins = record { inside = ins; own = λ x v h agree. h; copies = λ t x c. (c, refl); pending = λ x m p. p; fresh = λ x p. p; stored = λ x p. p }

  twice : (s s' s'' : State) → CoversCalculation s s' temps temps → CoversCalculation s' s'' temps temps → CoversCalculation s s'' temps temps
  twice s s' s'' a b = record {
    inside = b.inside;
    own = λ x v h agree. b.own x v (a.own x v h agree) (λ t is. agree t (a.copies t x is).0);
    copies = λ t x is. ((a.copies t x (b.copies t x is).0).0, refl);
    pending = λ x m p. b.pending x m (a.pending x m p);
    fresh = λ x p. a.fresh x (b.fresh x p);
    stored = λ x p. a.stored x (b.stored x p);
  }

  -- one side refined by a set that has what stands there
  record IsRefined (s : State) (reached : Option State) : Type 0 where
    state : State
    is : reached ≡ Some state
    covers : CoversCalculation s state temps temps
    locals : AreLocalsIn around.is_shared state temps
    lives : (u : ℕ) → HasTemp s u → HasTemp state u

  side_covers : (s : State) (side : Side) (v : Values) (w : ScalarValue) → AreIn s temps → AreLocalsIn around.is_shared s temps → ((u : ℕ) → IsAt side u → HasTemp s u) → IsAtSide temps side w → IsValueIn v w
      → IsRefined s (side_refined around side v s)
  side_covers s (temporary t) v w ins locals live_side at h =
      let l = live_side t refl in
      let in-v = subst (IsValueIn v) at h in
      record {
        state = refined s t v l.entry.copy;
        is = refine_reaches s t l.entry v l.stands in-v ins locals;
        covers = refine_covers s t l.entry v l.stands in-v ins locals;
        locals = refine_locals s t l.entry v l.stands in-v ins locals;
        lives = still_live s t l.entry v l.stands in-v ins locals;
      }
  side_covers s (fixed value) v w ins locals live_side at h = record {
    state = s;
    is = ap (λ b. cond b None (Some s)) (member_some v w h);
    covers = same_covers s ins;
    locals = locals;
    lives = λ u k. k;
  }

  both_cover : (s : State) (left right : Side) (a b : Values) (x y : ScalarValue) → AreIn s temps → AreLocalsIn around.is_shared s temps → ((u : ℕ) → IsAt left u → HasTemp s u) → ((u : ℕ) → IsAt right u → HasTemp s u)
      → IsAtSide temps left x → IsAtSide temps right y → IsValueIn a x → IsValueIn b y → LeadsTo (then_refined around right b (side_refined around left a s)) (λ s'. CoversCalculation s s' temps temps)
  both_cover s left right a b x y ins locals live_left live_right at_left at_right in_a in_b =
      let first = side_covers s left a x ins locals live_left at_left in_a in
      let second = side_covers first.state right b y first.covers.inside first.locals (λ u k. first.lives u (live_right u k)) at_right in_b in
      record { state = second.state; is = ap (then_refined around right b) first.is ∙ second.is; covers = twice s first.state second.state first.covers second.covers }

  in_side : (s : State) (side : Side) (w : ScalarValue) → AreIn s temps → ((u : ℕ) → IsAt side u → HasTemp s u) → IsAtSide temps side w → IsValueIn (side_value side s) w
  in_side s (temporary t) w ins live_side at = subst (IsValueIn (value_of s t)) (sym at) (in_temp s temps t ins (live_side t refl))
  in_side s (fixed value) w ins live_side at = at

  usable_in : (v : Values) (w : ScalarValue) → IsValueIn v w → w ≢ pointer invalid → IsValueIn (usable_values v) w
  usable_in v (number n) h differ = h
  usable_in v (pointer x) h differ = usable_holds v.pointers x h (λ e. differ (ap pointer e))

  filter_leads : (s : State) (filter : Filter) → AreIn s temps → AreLocalsIn around.is_shared s temps → ((u : ℕ) → IsFiltered filter u → HasTemp s u) → Passes temps filter
      → LeadsTo (after_filter around s filter) (λ s'. CoversCalculation s s' temps temps)
  filter_leads s (usable source) ins locals lives h =
      let l = lives source refl in
      let in-v = usable_in (value_of s source) (temps source) (in_temp s temps source ins l) h in
      record {
        state = refined s source (usable_values (value_of s source)) l.entry.copy;
        is = refine_reaches s source l.entry (usable_values (value_of s source)) l.stands in-v ins locals;
        covers = refine_covers s source l.entry (usable_values (value_of s source)) l.stands in-v ins locals;
      }
  filter_leads s (numbers_compare op left right) ins locals lives h =
      let v = side_value left s in
      let w = side_value right s in
      let in_v = in_side s left (number h.x) ins (λ u k. lives u (inl k)) h.at_left in
      let in_w = in_side s right (number h.y) ins (λ u k. lives u (inr k)) h.at_right in
      let is = assumed_is op v.numbers w.numbers in
      both_cover s left right (left_numbers op v w) (right_numbers op v w) (number h.x) (number h.y) ins locals (λ u k. lives u (inl k)) (λ u k. lives u (inr k)) h.at_left h.at_right
      (is.of_left.complete h.x (record { member = in_v; partner = h.y; in_other = in_w; related = h.holds })) (is.of_right.complete h.y (record { member = in_w; partner = h.x; in_other = in_v; related = h.holds }))
  filter_leads s (pointers_compare equal left right) ins locals lives h =
      let v = side_value left s in
      let w = side_value right s in
      let in_v = in_side s left (pointer h.x) ins (λ u k. lives u (inl k)) h.at_left in
      let in_w = in_side s right (pointer h.y) ins (λ u k. lives u (inr k)) h.at_right in
      let kept = pair_kept equal v.pointers w.pointers (left_pointers equal v.pointers w.pointers) (right_pointers equal v.pointers w.pointers) h.x h.y (pointers_are_assumed equal v.pointers w.pointers) in_v in_w h.holds in
      both_cover s left right (left_addresses equal v w) (right_addresses equal v w) (pointer h.x) (pointer h.y) ins locals (λ u k. lives u (inl k)) (λ u k. lives u (inr k)) h.at_left h.at_right kept.0 kept.1

  -- temporaries that are left out where the edge leads
  arrived_covers : (s s' : State) → CoversCalculation s s' temps temps → CoversCalculation s (arrived around s') temps temps
  arrived_covers s s' h = record {
    inside = live_in around s'.temps s'.cells temps (λ t e at. h.inside.in_value t e at);
    own = h.own;
    copies = λ t x c. (let k = live_copy around s'.temps s'.cells t x (record { entry = c.entry; stands = c.stands; copy = c.copy }) in h.copies t x (record { entry = k.0; stands = k.1.0; copy = k.1.1 }));
    pending = λ x m p. (let k = h.pending x m p in record { entry = k.entry; stands = k.stands; pending = k.pending });
    fresh = λ x p. h.fresh x (record { entry = p.entry; stands = p.stands; fresh = p.fresh });
    stored = λ x p. h.stored x (record { entry = p.entry; stands = p.stands; stored = p.stored });
  }

  pub filter_covers : (s : State) (filter : Filter) (store : Interferences) → AreIn s temps → AreLocalsIn around.is_shared s temps → ((u : ℕ) → IsFiltered filter u → HasTemp s u) → Passes temps filter
      → LeadsTo (after around (refines filter) s store) (λ s'. CoversCalculation s s' temps temps)
  unfolding effect
  filter_covers s filter store ins locals lives h =
      let l = filter_leads s filter ins locals lives h in
      record { state = arrived around l.state; is = ap (option_map (arrived around)) l.is; covers = arrived_covers s l.state l.covers }
