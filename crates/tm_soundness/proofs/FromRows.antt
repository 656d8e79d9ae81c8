-- A pair of tables and store that covers each edge by the rows is a solution in terms of members.
use Rattle.std.proofs.Common.{◌≡◌, ◌⊎◌, inl, inr, Option, Some, None, Bool, true, false, IsTrue, cond, refl, sym, ap, subst, ◌∙◌}
use Rattle.tm_soundness.specs.Tables.{Tables}
use Rattle.tm_soundness.specs.Shape.{Shape, Operation, calculation, load, load_any, store, clear, lock, unlock, yields, probe, Content, given, open_cell, Reads, reads_given, reads_open}
use Rattle.tm_soundness.specs.GraphWorlds.{IsAccess}
use Rattle.tm_soundness.specs.Covers.{Keeps, IsVisible, IsHanded, HasLocals, IsCopied, CoversCalc, CoversLoad, CoversStore, CoversClear, CoversLock, CoversUnlock, CoversYield, CoversHeld, CoversFree, IsSolution, IsEntered}
use Rattle.tm_soundness.specs.Rows.{pick, Domain, IsDomain, State, IsBelow, Store, Table, IsTarget, IsSingle, Finders, IsFinding, IsHearing, IsAddress, set_temp, end_copy, drop_copy, new_copy, after_load, store_single, store_many, stored_at, after_clear, after_lock, after_unlock, after_yield, after_held, after_free, after_of, IsCovered, IsCollected, IsHeard, IsEntryState, IsState, IsLively, AreIn, IsCalculated, LocalsIn, IsCalculating, IsInside, Has, tabled}

pub pick_yes : {A B : Type 0} (d : Dec A) (b c : B) → A → pick d b c ≡ b
pick_yes (yes a) b c h = refl
pick_yes (no n) b c h = absurd (n h)

pub pick_no : {A B : Type 0} (d : Dec A) (b c : B) → (A → ⊥) → pick d b c ≡ c
pick_no (yes a) b c h = absurd (h a)
pick_no (no n) b c h = refl

cond_false : {A : Type 0} (k : Bool) (x y : A) → k ≡ false → cond k x y ≡ y
cond_false k x y e = ap (λ b. cond b x y) e

some_same : {A : Type 0} (o : Option A) (a b : A) → o ≡ Some a → o ≡ Some b → a ≡ b
some_same o a b e f = cc

false_true : IsTrue false → ⊥
false_true e = cc

none_some : {A : Type 0} (a : A) (o : Option A) → o ≡ None → o ≡ Some a → ⊥
none_some a o e f = cc

module _ (P : Shape) (D : Domain P) (F : Finders P D) (laws : IsDomain P D) (finding : IsFinding P D F) (lively : IsLively P D F) (calculating : IsCalculating P D F) (table : Table P D) (st : Store P D) (covered : IsCovered P D F table st)
    (W : P.Task → P.Held → P.AbstractCell → P.Value → Type 0) (Y : P.Task → P.Mutex → P.AbstractCell → P.Value → Type 0) (heard : IsHeard P D F table st W Y) where
  abbrev S : Type 0
  S = State P D

  abbrev Q : Tables P
  Q = tabled P D F table W Y

  has_at : (q : P.Node) (s : S) (part : S → Type 0) → table q ≡ Some s → Has P D F table q part → part s
  has_at q s part is h = subst part (some_same (table q) h.state s h.is is) h.holds

  are_in : (q : P.Node) (s : S) (ρ : P.Valuation) → table q ≡ Some s → IsInside P D F table q ρ → AreIn P D F q s ρ
  are_in q s ρ is inside = subst (λ z. AreIn P D F q z ρ) (some_same (table q) inside.state s inside.is is) inside.temps

  -- what comes of a step from s to s', whose result lies below the state at q'
  module _ (q' : P.Node) (s' t : S) (there : table q' ≡ Some t) (below : IsBelow P D q' s' t) where
    inside_to : (ρ : P.Valuation) → AreIn P D F q' s' ρ → IsInside P D F table q' ρ
    inside_to ρ temps = record { state = t; is = there; temps = λ u live. laws.grows (s'.temps u) (t.temps u) (P.value_of ρ u) (below.temps u live) (temps u live) }

    own_to : (x : P.AbstractCell) (v : P.Value) → D.In (s'.own x) v → Q.own q' x v
    own_to x v h = record { state = t; is = there; holds = laws.grows (s'.own x) (t.own x) v (below.own x) h }

    pending_to : (x : P.AbstractCell) (m : P.Mutex) → IsTrue (s'.pending x m) → Q.pending q' x m
    pending_to x m h = record { state = t; is = there; holds = below.pending x m h }

    fresh_back : (x : P.AbstractCell) → Q.fresh q' x → IsTrue (s'.fresh x)
    fresh_back x h = below.fresh x (has_at q' t (λ z. IsTrue (z.fresh x)) there h)

    stored_back : (x : P.AbstractCell) → Q.stored q' x → IsTrue (s'.stored x)
    stored_back x h = below.stored x (has_at q' t (λ z. IsTrue (z.stored x)) there h)

    copy_back : (u : P.Temporary) (x : P.AbstractCell) → Q.copy q' u x → s'.copy u ≡ Some x
    copy_back u x h = below.copy u x (has_at q' t (λ z. z.copy u ≡ Some x) there h.1)

  module _ (q : P.Node) (s : S) (here : table q ≡ Some s) where
    own_from : (x : P.AbstractCell) (v : P.Value) → Q.own q x v → D.In (s.own x) v
    own_from x v h = has_at q s (λ z. D.In (z.own x) v) here h

    pending_from : (x : P.AbstractCell) (m : P.Mutex) → Q.pending q x m → IsTrue (s.pending x m)
    pending_from x m h = has_at q s (λ z. IsTrue (z.pending x m)) here h

    copy_from : (u : P.Temporary) (x : P.AbstractCell) → Q.copy q u x → s.copy u ≡ Some x
    copy_from u x h = has_at q s (λ z. z.copy u ≡ Some x) here h.1

    fresh_up : (x : P.AbstractCell) → IsTrue (s.fresh x) → Q.fresh q x
    fresh_up x h = record { state = s; is = here; holds = h }

    stored_up : (x : P.AbstractCell) → IsTrue (s.stored x) → Q.stored q x
    stored_up x h = record { state = s; is = here; holds = h }

    copy_up : (u : P.Temporary) (x : P.AbstractCell) → D.live q u → s.copy u ≡ Some x → Q.copy q u x
    copy_up u x live h = (live, record { state = s; is = here; holds = h })

  -- where own values only grow, pending mutexes stay, and nothing becomes fresh or stored
  keeps : (q q' : P.Node) (s s' t : S) → table q ≡ Some s → (there : table q' ≡ Some t) → IsBelow P D q' s' t → ((x : P.AbstractCell) (v : P.Value) → D.In (s.own x) v → D.In (s'.own x) v) → ((x : P.AbstractCell) (m : P.Mutex) → IsTrue (s.pending x m) → IsTrue (s'.pending x m))
      → ((x : P.AbstractCell) → IsTrue (s'.fresh x) → IsTrue (s.fresh x)) → ((x : P.AbstractCell) → IsTrue (s'.stored x) → IsTrue (s.stored x)) → Keeps P Q q q'
  keeps q q' s s' t here there below own pending fresh stored = record {
    own = λ x v h. own_to q' s' t there below x v (own x v (own_from q s here x v h));
    pending = λ x m h. pending_to q' s' t there below x m (pending x m (pending_from q s here x m h));
    fresh = λ x h. fresh_up q s here x (fresh x (fresh_back q' s' t there below x h));
    stored = λ x h. stored_up q s here x (stored x (stored_back q' s' t there below x h));
  }

  -- which state the edge leads to, and the state there that it lies below
  goes : (e : P.Edge) (o : Operation P.Temporary P.Mutex) (s s' : S) → P.operation e ≡ o → table (P.from e) ≡ Some s → after_of P D F e o s st ≡ Some s' → (t : S) × (table (P.to e) ≡ Some t) × IsBelow P D (P.to e) s' t
  goes e o s s' is here result = covered.states e s s' here (ap (λ p. after_of P D F e p s st) is ∙ result)

  target_of : (e : P.Edge) (a : P.Temporary) (s : S) (ρ : P.Valuation) (c : P.Cell) → AreIn P D F (P.from e) s ρ → D.live (P.from e) a → IsAccess P e ρ a c → IsTarget P D e a s (P.abstract_cell c)
  target_of e a s ρ c temps live access = record { value = P.value_of ρ a; cell = c; may = temps a live; points = access.points; usable = access.usable; fits = access.fits; is = refl }

  calculated : (e : P.Edge) (o : Operation P.Temporary P.Mutex) (ρ ρ' : P.Valuation) (s : S) → P.operation e ≡ o → table (P.from e) ≡ Some s → ((z : S) → after_of P D F e o z st ≡ F.calculated e z) → IsCalculated P D F e s ρ ρ' → CoversCalc P Q e ρ ρ'
  calculated e o ρ ρ' s is here opens done =
      let go : (t : S) × (table (P.to e) ≡ Some t) × IsBelow P D (P.to e) done.state t = goes e o s done.state is here (opens s ∙ done.is) in
      record {
        inside = inside_to (P.to e) done.state go.0 go.1 go.2 ρ' done.temps;
        own = λ x v h agree. own_to (P.to e) done.state go.0 go.1 go.2 x v (done.own x v (own_from (P.from e) s here x v h) (λ u live copied. agree u (copy_up (P.from e) s here u x live copied)));
        copies = λ u x h.
            let c : D.live (P.from e) u × (s.copy u ≡ Some x) × (P.value_of ρ' u ≡ P.value_of ρ u) = done.copies u x h.0 (copy_back (P.to e) done.state go.0 go.1 go.2 u x h) in
            (copy_up (P.from e) s here u x c.0 c.1, c.2);
        pending = λ x m h. pending_to (P.to e) done.state go.0 go.1 go.2 x m (done.pending x m (pending_from (P.from e) s here x m h));
        fresh = λ x h. fresh_up (P.from e) s here x (done.fresh x (fresh_back (P.to e) done.state go.0 go.1 go.2 x h));
        stored = λ x h. stored_up (P.from e) s here x (done.stored x (stored_back (P.to e) done.state go.0 go.1 go.2 x h));
      }

  locals_in : (e : P.Edge) (s : S) (ρ : P.Valuation) → table (P.from e) ≡ Some s → HasLocals P Q e ρ → LocalsIn P D F e s ρ
  locals_in e s ρ here locals = record {
    own = λ u x live copied mine. own_from (P.from e) s here x (P.value_of ρ u) (locals.own u x (copy_up (P.from e) s here u x live copied) mine);
    agree = λ t u x live live' copied copied' mine. locals.agree t u x (copy_up (P.from e) s here t x live copied) (copy_up (P.from e) s here u x live' copied') mine;
  }

  calc_covers : (e : P.Edge) (ρ ρ' : P.Valuation) → P.operation e ≡ calculation → IsInside P D F table (P.from e) ρ → HasLocals P Q e ρ → P.does e ρ ρ' → CoversCalc P Q e ρ ρ'
  calc_covers e ρ ρ' is inside locals does =
      calculated e calculation ρ ρ' inside.state is inside.is (λ z. refl) (calculating.calcs e inside.state ρ ρ' is inside.temps (locals_in e inside.state ρ inside.is locals) does)

  any_covers : (e : P.Edge) (ρ ρ' : P.Valuation) (a : P.Temporary) (c : P.Cell) → P.operation e ≡ load_any a → IsInside P D F table (P.from e) ρ → HasLocals P Q e ρ → IsAccess P e ρ a c → P.does e ρ ρ' → CoversCalc P Q e ρ ρ'
  any_covers e ρ ρ' a c is inside locals access does =
      calculated e (load_any a) ρ ρ' inside.state is inside.is (λ z. refl) (calculating.anys e inside.state ρ ρ' a c is inside.temps (locals_in e inside.state ρ inside.is locals) (record { points = access.points; usable = access.usable; fits = access.fits }) does)

  -- the values of the temporaries after t was set
  set_in : (q q' : P.Node) (s : S) (ρ : P.Valuation) (t : P.Temporary) (v : P.Value) (a : D.Abs) → AreIn P D F q s ρ → D.In a v → ((u : P.Temporary) → D.live q' u → (u ≡ t → ⊥) → D.live q u)
      → (u : P.Temporary) → D.live q' u → D.In (set_temp P D F s.temps t a u) (P.value_of (P.put ρ t v) u)
  set_in q q' s ρ t v a temps has flow u live = by_case (D.same_temporary u t)
    where
      by_case : (d : Dec (u ≡ t)) → D.In (pick d a (s.temps u)) (P.value_of (P.put ρ t v) u)
      by_case (yes is) = subst (λ w. D.In a w) (sym (ap (P.value_of (P.put ρ t v)) is ∙ laws.put_here ρ t v)) has
      by_case (no not) = subst (λ w. D.In (s.temps u) w) (sym (laws.put_there ρ t u v not)) (temps u (flow u live not))

  -- a copy after t was set
  end_cases : (f : P.Temporary → Option P.AbstractCell) (t : P.Temporary) (o : Option P.AbstractCell) (u : P.Temporary) (x : P.AbstractCell) → end_copy P D F f t o u ≡ Some x → ((u ≡ t) × (o ≡ Some x)) ⊎ ((u ≡ t → ⊥) × (f u ≡ Some x))
  end_cases f t o u x = by_case (D.same_temporary u t)
    where
      by_case : (d : Dec (u ≡ t)) → pick d o (f u) ≡ Some x → ((u ≡ t) × (o ≡ Some x)) ⊎ ((u ≡ t → ⊥) × (f u ≡ Some x))
      by_case (yes is) e = inl (is, e)
      by_case (no not) e = inr (not, e)

  new_cases : (s : S) (o : Option P.AbstractCell) (x : P.AbstractCell) → new_copy P D F s o ≡ Some x → (o ≡ Some x) × (P.shared x ⊎ IsTrue (s.stored x))
  new_cases s None x e = absurd (none_some x None refl e)
  new_cases s (Some y) x e = by_case (D.is_shared y) (s.stored y) refl e
    where
      by_case : (d : Dec (P.shared y)) (b : Bool) → s.stored y ≡ b → pick d (Some y) (cond b (Some y) None) ≡ Some x → (let o : Option P.AbstractCell = Some y in o ≡ Some x) × (P.shared x ⊎ IsTrue (s.stored x))
      by_case (yes shared) b is e = (e, inl (subst P.shared (some_same (Some y) y x refl e) shared))
      by_case (no not) true is e = (e, inr (subst (λ z. IsTrue (s.stored z)) (some_same (Some y) y x refl e) is))
      by_case (no not) false is e = absurd (none_some x None refl e)

  load_covers : (e : P.Edge) (ρ : P.Valuation) (a t : P.Temporary) (c : P.Cell) (v : P.Value) → P.operation e ≡ load a t → IsInside P D F table (P.from e) ρ → IsAccess P e ρ a c
      → Q.own (P.from e) (P.abstract_cell c) v ⊎ (P.shared (P.abstract_cell c) × IsVisible P Q (P.actor e) (P.from e) (P.abstract_cell c) v) → CoversLoad P Q e ρ t c v
  load_covers e ρ a t c v is inside access seen = record {
    inside = inside_to (P.to e) s' go.0 go.1 go.2 (P.put ρ t v) (set_in (P.from e) (P.to e) s ρ t v (F.loaded e a s st) inside.temps loaded (λ u live. lively.flow_load e a t u is live));
    keeps = keeps (P.from e) (P.to e) s s' go.0 inside.is go.1 go.2 (λ x w h. h) (λ x m h. h) (λ x h. h) (λ x h. h);
    copies = λ u y h. copies u y h.0 (end_cases s.copy t (new_copy P D F s (F.single e a s)) u y (copy_back (P.to e) s' go.0 go.1 go.2 u y h));
  }
    where
      s : S
      s = inside.state

      target : IsTarget P D e a s (P.abstract_cell c)
      target = target_of e a s ρ c inside.temps (lively.load_address e a t is) (record { points = access.points; usable = access.usable; fits = access.fits })

      load_in : Q.own (P.from e) (P.abstract_cell c) v ⊎ (P.shared (P.abstract_cell c) × IsVisible P Q (P.actor e) (P.from e) (P.abstract_cell c) v) → D.In (F.loaded e a s st) v
      load_in (inl h) = laws.grows (s.own (P.abstract_cell c)) (F.loaded e a s st) v (finding.loaded_own e a s st (P.abstract_cell c) target) (own_from (P.from e) s inside.is (P.abstract_cell c) v h)
      load_in (inr p) = heard.weak_out e a s (P.abstract_cell c) p.1.writer p.1.under v target p.0 (record {
        other = p.1.other;
        apart = p.1.apart;
        why = elim p.1.why [ inl le ↦ inl le | inr old ↦ inr ((λ h. old.0 (fresh_up (P.from e) s inside.is (P.abstract_cell c) h)), old.1) ];
      }) p.1.entered

      loaded : D.In (F.loaded e a s st) v
      loaded = load_in seen

      s' : S
      s' = record { temps = set_temp P D F s.temps t (F.loaded e a s st); own = s.own; pending = s.pending; fresh = s.fresh; stored = s.stored; copy = end_copy P D F s.copy t (new_copy P D F s (F.single e a s)) }

      result : after_load P D F e a t s st ≡ Some s'
      result = cond_false (F.no_target e a s) None (cond (D.is_nothing (F.loaded e a s st)) None (Some s')) (finding.no_target e a s (P.abstract_cell c) target) ∙ cond_false (D.is_nothing (F.loaded e a s st)) None (Some s') (laws.nothing (F.loaded e a s st) v loaded)

      go : (t' : S) × (table (P.to e) ≡ Some t') × IsBelow P D (P.to e) s' t'
      go = goes e (load a t) s s' is inside.is result

      copies : (u : P.Temporary) (y : P.AbstractCell) → D.live (P.to e) u → ((u ≡ t) × (new_copy P D F s (F.single e a s) ≡ Some y)) ⊎ ((u ≡ t → ⊥) × (s.copy u ≡ Some y))
          → (Q.copy (P.from e) u y × (P.value_of (P.put ρ t v) u ≡ P.value_of ρ u)) ⊎ ((P.value_of (P.put ρ t v) u ≡ v) × IsCopied P Q e c y)
      copies u y live (inr old) = inl (copy_up (P.from e) s inside.is u y (lively.flow_load e a t u is live old.0) old.1, laws.put_there ρ t u v old.0)
      copies u y live (inl new) =
          let made : (F.single e a s ≡ Some y) × (P.shared y ⊎ IsTrue (s.stored y)) = new_cases s (F.single e a s) y new.1 in
          let single : IsSingle P D e a s y = finding.single e a s y made.0 in
          let at_c : P.abstract_cell c ≡ y = single.only (P.abstract_cell c) target in
          inr (
            ap (P.value_of (P.put ρ t v)) new.0 ∙ laws.put_here ρ t v,
            record {
              is = sym at_c;
              one = λ d at_d. laws.one_cell c d (λ h. single.whole (subst D.smashed at_c h)) (at_d ∙ sym at_c);
              known = elim made.1 [ inl shared ↦ inl shared | inr stored ↦ inr (stored_up (P.from e) s inside.is y stored) ];
            },
          )

  drop_cases : {T : P.AbstractCell → Type 0} (test : (x : P.AbstractCell) → Dec (T x)) (o : Option P.AbstractCell) (x : P.AbstractCell) → drop_copy P D F test o ≡ Some x → (o ≡ Some x) × (T x → ⊥)
  drop_cases test None x e = absurd (none_some x None refl e)
  drop_cases {T} test (Some y) x e = by_case (test y) e
    where
      by_case : (d : Dec (T y)) → pick d None (Some y) ≡ Some x → (let o : Option P.AbstractCell = Some y in o ≡ Some x) × (T x → ⊥)
      by_case (yes h) e = absurd (none_some x None refl e)
      by_case (no not) e = (e, λ h. not (subst T (sym (some_same (Some y) y x refl e)) h))

  store_covers : (e : P.Edge) (ρ : P.Valuation) (a w : P.Temporary) (c : P.Cell) → P.operation e ≡ store a w → IsInside P D F table (P.from e) ρ → IsAccess P e ρ a c → CoversStore P Q e ρ (P.value_of ρ w) c
  store_covers e ρ a w c is inside access = cases (F.single e a s) refl
    where
      s : S
      s = inside.state

      h : P.Held
      h = P.held (P.from e)

      values : IsState P D s
      values = covered.values (P.from e) s inside.is

      value : D.In (s.temps w) (P.value_of ρ w)
      value = inside.temps w (lively.store_value e a w is)

      target : IsTarget P D e a s (P.abstract_cell c)
      target = target_of e a s ρ c inside.temps (lively.store_address e a w is) (record { points = access.points; usable = access.usable; fits = access.fits })

      added : P.shared (P.abstract_cell c) → W (P.actor e) h (P.abstract_cell c) (P.value_of ρ w)
      added shared = heard.weak_in e s a w (P.abstract_cell c) (P.value_of ρ w) inside.is is target shared value

      result : (o : Option P.AbstractCell) → F.single e a s ≡ o → after_of P D F e (store a w) s st ≡ Some (stored_at P D F e a w s o)
      result o single = cond_false (F.no_target e a s) None (Some (stored_at P D F e a w s (F.single e a s))) (finding.no_target e a s (P.abstract_cell c) target) ∙ ap (λ z. Some (stored_at P D F e a w s z)) single

      cases : (o : Option P.AbstractCell) → F.single e a s ≡ o → CoversStore P Q e ρ (P.value_of ρ w) c
      cases (Some x) found = record {
        inside = inside_to (P.to e) s' go.0 go.1 go.2 ρ (λ u live. inside.temps u (lively.flow_store e a w u is live));
        own = own_to (P.to e) s' go.0 go.1 go.2 (P.abstract_cell c) (P.value_of ρ w) (subst (λ b. D.In b (P.value_of ρ w)) (sym (pick_yes (D.same_abstract (P.abstract_cell c) x) (s.temps w) (s.own (P.abstract_cell c)) at_c)) value);
        own_other = λ d v not m. own_to (P.to e) s' go.0 go.1 go.2 (P.abstract_cell d) v (subst (λ b. D.In b v) (sym (pick_no (D.same_abstract (P.abstract_cell d) x) (s.temps w) (s.own (P.abstract_cell d)) (off d not))) (own_from (P.from e) s inside.is (P.abstract_cell d) v m));
        pending = λ m shared mine. pending_to (P.to e) s' go.0 go.1 go.2 (P.abstract_cell c) m (pick_yes (D.same_abstract (P.abstract_cell c) x) (pick (D.is_shared (P.abstract_cell c)) (pick (P.has h m) true false) (s.pending (P.abstract_cell c) m)) (s.pending (P.abstract_cell c) m) at_c ∙ pick_yes (D.is_shared (P.abstract_cell c)) (pick (P.has h m) true false) (s.pending (P.abstract_cell c) m) shared ∙ pick_yes (P.has h m) true false mine);
        pending_other = λ d m not p. pending_to (P.to e) s' go.0 go.1 go.2 (P.abstract_cell d) m (pick_no (D.same_abstract (P.abstract_cell d) x) (pick (D.is_shared (P.abstract_cell d)) (pick (P.has h m) true false) (s.pending (P.abstract_cell d) m)) (s.pending (P.abstract_cell d) m) (off d not) ∙ pending_from (P.from e) s inside.is (P.abstract_cell d) m p);
        fresh_other = λ d not f. fresh_up (P.from e) s inside.is (P.abstract_cell d) (sym (pick_no (D.same_abstract (P.abstract_cell d) x) true (s.fresh (P.abstract_cell d)) (off d not)) ∙ fresh_back (P.to e) s' go.0 go.1 go.2 (P.abstract_cell d) f);
        stored_other = λ d not f. stored_up (P.from e) s inside.is (P.abstract_cell d) (sym (pick_no (D.same_abstract (P.abstract_cell d) x) (pick (D.is_shared (P.abstract_cell d)) (s.stored (P.abstract_cell d)) true) (s.stored (P.abstract_cell d)) (off d not)) ∙ stored_back (P.to e) s' go.0 go.1 go.2 (P.abstract_cell d) f);
        copies = λ u y k.
            let left : (s.copy u ≡ Some y) × (y ≡ x → ⊥) = drop_cases (λ z. D.same_abstract z x) (s.copy u) y (copy_back (P.to e) s' go.0 go.1 go.2 u y k) in
            (copy_up (P.from e) s inside.is u y (lively.flow_store e a w u is k.0) left.0, λ same. left.1 (same ∙ at_c));
        added = added;
      }
        where
          single : IsSingle P D e a s x
          single = finding.single e a s x found

          at_c : P.abstract_cell c ≡ x
          at_c = single.only (P.abstract_cell c) target

          off : (d : P.Cell) → (d ≡ c → ⊥) → P.abstract_cell d ≡ x → ⊥
          off d not at_d = not (laws.one_cell c d (λ k. single.whole (subst D.smashed at_c k)) (at_d ∙ sym at_c))

          s' : S
          s' = store_single P D F e w s x

          go : (t' : S) × (table (P.to e) ≡ Some t') × IsBelow P D (P.to e) s' t'
          go = goes e (store a w) s s' is inside.is (result (Some x) found)
      cases None found = record {
        inside = inside_to (P.to e) s' go.0 go.1 go.2 ρ (λ u live. inside.temps u (lively.flow_store e a w u is live));
        own = own_to (P.to e) s' go.0 go.1 go.2 (P.abstract_cell c) (P.value_of ρ w) (subst (λ b. D.In b (P.value_of ρ w)) (sym (pick_yes (F.is_target e a s (P.abstract_cell c)) (D.join (s.own (P.abstract_cell c)) (s.temps w)) (s.own (P.abstract_cell c)) target))
            (laws.right (s.own (P.abstract_cell c)) (s.temps w) (P.value_of ρ w) (values.own (P.abstract_cell c)) (values.temps w) value));
        own_other = λ d v not m. own_to (P.to e) s' go.0 go.1 go.2 (P.abstract_cell d) v (own_on d v (F.is_target e a s (P.abstract_cell d)) (own_from (P.from e) s inside.is (P.abstract_cell d) v m));
        pending = λ m shared mine. pending_to (P.to e) s' go.0 go.1 go.2 (P.abstract_cell c) m (pick_yes (F.is_target e a s (P.abstract_cell c)) (pick (D.is_shared (P.abstract_cell c)) (pick (P.has h m) true (s.pending (P.abstract_cell c) m)) (s.pending (P.abstract_cell c) m)) (s.pending (P.abstract_cell c) m) target
            ∙ pick_yes (D.is_shared (P.abstract_cell c)) (pick (P.has h m) true (s.pending (P.abstract_cell c) m)) (s.pending (P.abstract_cell c) m) shared ∙ pick_yes (P.has h m) true (s.pending (P.abstract_cell c) m) mine);
        pending_other = λ d m not p. pending_to (P.to e) s' go.0 go.1 go.2 (P.abstract_cell d) m (pending_on d m (F.is_target e a s (P.abstract_cell d)) (D.is_shared (P.abstract_cell d)) (P.has h m) (pending_from (P.from e) s inside.is (P.abstract_cell d) m p));
        fresh_other = λ d not f. fresh_up (P.from e) s inside.is (P.abstract_cell d) (fresh_back (P.to e) s' go.0 go.1 go.2 (P.abstract_cell d) f);
        stored_other = λ d not f. stored_up (P.from e) s inside.is (P.abstract_cell d) (stored_back (P.to e) s' go.0 go.1 go.2 (P.abstract_cell d) f);
        copies = λ u y k.
            let left : (s.copy u ≡ Some y) × (IsTarget P D e a s y → ⊥) = drop_cases (F.is_target e a s) (s.copy u) y (copy_back (P.to e) s' go.0 go.1 go.2 u y k) in
            (copy_up (P.from e) s inside.is u y (lively.flow_store e a w u is k.0) left.0, λ same. left.1 (subst (λ z. IsTarget P D e a s z) (sym same) target));
        added = added;
      }
        where
          s' : S
          s' = store_many P D F e a w s

          go : (t' : S) × (table (P.to e) ≡ Some t') × IsBelow P D (P.to e) s' t'
          go = goes e (store a w) s s' is inside.is (result None found)

          own_on : (d : P.Cell) (v : P.Value) (k : Dec (IsTarget P D e a s (P.abstract_cell d))) → D.In (s.own (P.abstract_cell d)) v → D.In (pick k (D.join (s.own (P.abstract_cell d)) (s.temps w)) (s.own (P.abstract_cell d))) v
          own_on d v (yes t) m = laws.left (s.own (P.abstract_cell d)) (s.temps w) v (values.own (P.abstract_cell d)) (values.temps w) m
          own_on d v (no t) m = m

          pending_on : (d : P.Cell) (m : P.Mutex) (k : Dec (IsTarget P D e a s (P.abstract_cell d))) (g : Dec (P.shared (P.abstract_cell d))) (j : Dec (P.Has h m)) → IsTrue (s.pending (P.abstract_cell d) m)
              → IsTrue (pick k (pick g (pick j true (s.pending (P.abstract_cell d) m)) (s.pending (P.abstract_cell d) m)) (s.pending (P.abstract_cell d) m))
          pending_on d m (yes t) (yes g) (yes j) p = refl
          pending_on d m (yes t) (yes g) (no j) p = p
          pending_on d m (yes t) (no g) j p = p
          pending_on d m (no t) g j p = p

  clear_covers : (e : P.Edge) (ρ : P.Valuation) → P.operation e ≡ clear → IsInside P D F table (P.from e) ρ → CoversClear P Q e ρ
  clear_covers e ρ is inside = record {
    inside = inside_to (P.to e) s' go.0 go.1 go.2 ρ (λ u live. inside.temps u (lively.flow_clear e u is live));
    own = λ c v cleared reads. own_to (P.to e) s' go.0 go.1 go.2 (P.abstract_cell c) v (subst (λ b. D.In b v) (sym (pick_yes (D.clears_abstract e (P.abstract_cell c)) (D.whole (P.abstract_cell c)) (s.own (P.abstract_cell c)) (c, refl, cleared))) (laws.whole c v (reads_on c v reads)));
    own_other = λ c v not m. own_to (P.to e) s' go.0 go.1 go.2 (P.abstract_cell c) v (subst (λ b. D.In b v) (sym (pick_no (D.clears_abstract e (P.abstract_cell c)) (D.whole (P.abstract_cell c)) (s.own (P.abstract_cell c)) (off c not))) (own_from (P.from e) s inside.is (P.abstract_cell c) v m));
    pending = λ x m p. pending_to (P.to e) s' go.0 go.1 go.2 x m (pending_from (P.from e) s inside.is x m p);
    fresh = λ x f. fresh_up (P.from e) s inside.is x (fresh_back (P.to e) s' go.0 go.1 go.2 x f);
    stored = λ c f. stored_on c (D.clears_abstract e (P.abstract_cell c)) (stored_back (P.to e) s' go.0 go.1 go.2 (P.abstract_cell c) f);
    copies = λ c u k.
        let left : (s.copy u ≡ Some (P.abstract_cell c)) × ((d : P.Cell) × (P.abstract_cell d ≡ P.abstract_cell c) × P.clears e d → ⊥) = drop_cases (D.clears_abstract e) (s.copy u) (P.abstract_cell c) (copy_back (P.to e) s' go.0 go.1 go.2 u (P.abstract_cell c) k) in
        (copy_up (P.from e) s inside.is u (P.abstract_cell c) (lively.flow_clear e u is k.0) left.0, λ cleared. left.1 (c, refl, cleared));
  }
    where
      s : S
      s = inside.state

      s' : S
      s' = after_clear P D F e s

      go : (t' : S) × (table (P.to e) ≡ Some t') × IsBelow P D (P.to e) s' t'
      go = goes e clear s s' is inside.is refl

      off : (c : P.Cell) → (P.clears e c → ⊥) → (d : P.Cell) × (P.abstract_cell d ≡ P.abstract_cell c) × P.clears e d → ⊥
      off c not k = not (laws.one_object e k.0 c k.2 (sym k.1))

      reads_on : (c : P.Cell) (v : P.Value) → Reads P (P.abstract_cell c) (P.cleared c) v → Reads P (P.abstract_cell c) (P.cleared c) v
      reads_on c v r = by_case (P.cleared c) r
        where
          by_case : (k : Content P.Value) → Reads P (P.abstract_cell c) k v → Reads P (P.abstract_cell c) k v
          by_case (given w) (reads_given {v = v'}) = reads_given
          by_case open_cell (reads_open range) = reads_open range

      stored_on : (c : P.Cell) (k : Dec ((d : P.Cell) × (P.abstract_cell d ≡ P.abstract_cell c) × P.clears e d)) → IsTrue (pick k false (s.stored (P.abstract_cell c))) → Q.stored (P.from e) (P.abstract_cell c) × (P.clears e c → ⊥)
      stored_on c (yes k) f = absurd (false_true f)
      stored_on c (no not) f = (stored_up (P.from e) s inside.is (P.abstract_cell c) f, λ cleared. not (c, refl, cleared))

  -- own values after others' sync entries were joined
  joined_own : (i : P.Task) (m : P.Mutex) (s : S) → IsState P D s → (x : P.AbstractCell) (v : P.Value) (d : Dec (P.shared x)) → D.In (s.own x) v → D.In (pick d (D.join (s.own x) (F.handed st i m x)) (s.own x)) v
  joined_own i m s values x v (yes shared) h = laws.left (s.own x) (F.handed st i m x) v (values.own x) (covered.handed_values i m x) h
  joined_own i m s values x v (no not) h = h

  joined_handed : (i : P.Task) (m : P.Mutex) (s : S) → IsState P D s → (x : P.AbstractCell) (v : P.Value) (d : Dec (P.shared x)) → P.shared x → IsHanded P Q i m x v → D.In (pick d (D.join (s.own x) (F.handed st i m x)) (s.own x)) v
  joined_handed i m s values x v (yes _) shared h = laws.right (s.own x) (F.handed st i m x) v (values.own x) (covered.handed_values i m x) (heard.sync_out i h.writer m x v h.other h.entered)
  joined_handed i m s values x v (no not) shared h = absurd (not shared)

  lock_covers : (e : P.Edge) (ρ : P.Valuation) (m : P.Mutex) → P.operation e ≡ lock m → IsInside P D F table (P.from e) ρ → (P.Has (P.held (P.from e)) m → ⊥) → CoversLock P Q e ρ m
  lock_covers e ρ m is inside not = record {
    inside = inside_to (P.to e) s' go.0 go.1 go.2 ρ (λ u live. inside.temps u (lively.flow_lock e m u is live));
    keeps = keeps (P.from e) (P.to e) s s' go.0 inside.is go.1 go.2 (λ x v. joined_own (P.actor e) m s (covered.values (P.from e) s inside.is) x v (D.is_shared x)) (λ x n p. p) (λ x f. absurd (false_true f)) (λ x f. f);
    handed = λ x v shared h. own_to (P.to e) s' go.0 go.1 go.2 x v (joined_handed (P.actor e) m s (covered.values (P.from e) s inside.is) x v (D.is_shared x) shared h);
    fresh = λ x f. false_true (fresh_back (P.to e) s' go.0 go.1 go.2 x f);
    copies = λ u x k. none_some x None refl (copy_back (P.to e) s' go.0 go.1 go.2 u x k);
  }
    where
      s : S
      s = inside.state

      s' : S
      s' = after_lock P D F e m s st

      go : (t' : S) × (table (P.to e) ≡ Some t') × IsBelow P D (P.to e) s' t'
      go = goes e (lock m) s s' is inside.is (pick_no (P.has (P.held (P.from e)) m) None (Some s') not)

  unlock_covers : (e : P.Edge) (ρ : P.Valuation) (m : P.Mutex) → P.operation e ≡ unlock m → IsInside P D F table (P.from e) ρ → P.Has (P.held (P.from e)) m → CoversUnlock P Q e ρ m
  unlock_covers e ρ m is inside mine = record {
    inside = inside_to (P.to e) s' go.0 go.1 go.2 ρ (λ u live. inside.temps u (lively.flow_unlock e m u is live));
    own = λ x v h. own_to (P.to e) s' go.0 go.1 go.2 x v (own_from (P.from e) s inside.is x v h);
    pending = λ x n other p. pending_to (P.to e) s' go.0 go.1 go.2 x n (pick_no (P.same_mutex n m) false (s.pending x n) other ∙ pending_from (P.from e) s inside.is x n p);
    fresh = λ x f. fresh_up (P.from e) s inside.is x (fresh_back (P.to e) s' go.0 go.1 go.2 x f);
    stored = λ x f. stored_up (P.from e) s inside.is x (stored_back (P.to e) s' go.0 go.1 go.2 x f);
    copies = λ u x k. copy_up (P.from e) s inside.is u x (lively.flow_unlock e m u is k.0) (copy_back (P.to e) s' go.0 go.1 go.2 u x k);
    added = λ x v shared p h. heard.sync_in e s m x v inside.is is mine shared (pending_from (P.from e) s inside.is x m p) (own_from (P.from e) s inside.is x v h);
  }
    where
      s : S
      s = inside.state

      s' : S
      s' = after_unlock P D F m s

      go : (t' : S) × (table (P.to e) ≡ Some t') × IsBelow P D (P.to e) s' t'
      go = goes e (unlock m) s s' is inside.is (pick_yes (P.has (P.held (P.from e)) m) (Some s') None mine)

  yield_covers : (e : P.Edge) (ρ : P.Valuation) → P.operation e ≡ yields → IsInside P D F table (P.from e) ρ → CoversYield P Q e ρ
  yield_covers e ρ is inside = record {
    inside = inside_to (P.to e) s' go.0 go.1 go.2 ρ (λ u live. inside.temps u (lively.flow_waits e u is live));
    keeps = keeps (P.from e) (P.to e) s s' go.0 inside.is go.1 go.2 (λ x v h. h) (λ x n p. p) (λ x f. absurd (false_true f)) (λ x f. f);
    fresh = λ x f. false_true (fresh_back (P.to e) s' go.0 go.1 go.2 x f);
    copies = λ u x k. copy_up (P.from e) s inside.is u x (lively.flow_waits e u is k.0) (copy_back (P.to e) s' go.0 go.1 go.2 u x k);
  }
    where
      s : S
      s = inside.state

      s' : S
      s' = after_yield P D F s

      go : (t' : S) × (table (P.to e) ≡ Some t') × IsBelow P D (P.to e) s' t'
      go = goes e yields s s' is inside.is refl

  held_covers : (e : P.Edge) (ρ : P.Valuation) (m : P.Mutex) (t : P.Temporary) → P.operation e ≡ probe m t true → IsInside P D F table (P.from e) ρ → CoversHeld P Q e ρ (P.put ρ t (P.bit true))
  held_covers e ρ m t is inside = record {
    inside = inside_to (P.to e) s' go.0 go.1 go.2 (P.put ρ t (P.bit true)) (set_in (P.from e) (P.to e) s ρ t (P.bit true) (D.one (P.bit true)) inside.temps (laws.one (P.bit true)) (λ u live. lively.flow_probe e m t u true is live));
    keeps = keeps (P.from e) (P.to e) s s' go.0 inside.is go.1 go.2 (λ x v h. h) (λ x n p. p) (λ x f. f) (λ x f. f);
    copies = λ u x k. copies u x k.0 (end_cases s.copy t None u x (copy_back (P.to e) s' go.0 go.1 go.2 u x k));
  }
    where
      s : S
      s = inside.state

      s' : S
      s' = after_held P D F t s

      go : (t' : S) × (table (P.to e) ≡ Some t') × IsBelow P D (P.to e) s' t'
      go = goes e (probe m t true) s s' is inside.is refl

      copies : (u : P.Temporary) (x : P.AbstractCell) → D.live (P.to e) u → ((u ≡ t) × (let o : Option P.AbstractCell = None in o ≡ Some x)) ⊎ ((u ≡ t → ⊥) × (s.copy u ≡ Some x)) → Q.copy (P.from e) u x × (P.value_of (P.put ρ t (P.bit true)) u ≡ P.value_of ρ u)
      copies u x live (inl new) = absurd (none_some x None refl new.1)
      copies u x live (inr old) = (copy_up (P.from e) s inside.is u x (lively.flow_probe e m t u true is live old.0) old.1, laws.put_there ρ t u (P.bit true) old.0)

  free_covers : (e : P.Edge) (ρ : P.Valuation) (m : P.Mutex) (t : P.Temporary) → P.operation e ≡ probe m t false → IsInside P D F table (P.from e) ρ → (P.Has (P.held (P.from e)) m → ⊥) → CoversFree P Q e (P.put ρ t (P.bit false)) m
  free_covers e ρ m t is inside not = record {
    inside = inside_to (P.to e) s' go.0 go.1 go.2 (P.put ρ t (P.bit false)) (set_in (P.from e) (P.to e) s ρ t (P.bit false) (D.one (P.bit false)) inside.temps (laws.one (P.bit false)) (λ u live. lively.flow_probe e m t u false is live));
    keeps = keeps (P.from e) (P.to e) s s' go.0 inside.is go.1 go.2 (λ x v. joined_own (P.actor e) m s (covered.values (P.from e) s inside.is) x v (D.is_shared x)) (λ x n p. p) (λ x f. f) (λ x f. f);
    handed = λ x v shared h. own_to (P.to e) s' go.0 go.1 go.2 x v (joined_handed (P.actor e) m s (covered.values (P.from e) s inside.is) x v (D.is_shared x) shared h);
    copies = λ u x k. none_some x None refl (copy_back (P.to e) s' go.0 go.1 go.2 u x k);
  }
    where
      s : S
      s = inside.state

      s' : S
      s' = after_free P D F e m t s st

      go : (t' : S) × (table (P.to e) ≡ Some t') × IsBelow P D (P.to e) s' t'
      go = goes e (probe m t false) s s' is inside.is (pick_no (P.has (P.held (P.from e)) m) None (Some s') not)

  targeted : (e : P.Edge) (ρ : P.Valuation) (a : P.Temporary) (c : P.Cell) → IsAddress (P.operation e) a → D.live (P.from e) a → IsInside P D F table (P.from e) ρ → IsAccess P e ρ a c → Q.target e (P.abstract_cell c)
  targeted e ρ a c address live inside access = record { state = inside.state; is = inside.is; holds = (a, address, target_of e a inside.state ρ c inside.temps live (record { points = access.points; usable = access.usable; fits = access.fits })) }

  -- entry states
  pub entered_rows : (memory : P.Cell → Content P.Value) (temps : P.Task → P.Valuation) → ((c : P.Cell) → P.shared (P.abstract_cell c) → (v : P.Value) × (memory c ≡ given v)) → ((i : P.Task) → IsEntryState P D F table memory i) → IsEntered P Q memory temps
  entered_rows memory temps some entry = record {
    inside = λ i. record { state = (entry i).state; is = (entry i).is; temps = λ t live. absurd ((entry i).no_temps t live) };
    shared = λ c shared. ((some c shared).0, (some c shared).1, λ i. record { state = (entry i).state; is = (entry i).is; holds = (entry i).shared c (some c shared).0 shared (some c shared).1 });
    local = λ i c v mine r. record { state = (entry i).state; is = (entry i).is; holds = (entry i).local c v mine (reads_back (P.abstract_cell c) (memory c) v r) };
    fresh = λ i x f. (entry i).fresh x (has_at (P.entry i) (entry i).state (λ z. IsTrue (z.fresh x)) (entry i).is f);
    stored = λ i x f. (entry i).stored x (has_at (P.entry i) (entry i).state (λ z. IsTrue (z.stored x)) (entry i).is f);
    copies = λ i t x k. (entry i).no_temps t k.0;
  }
    where
      reads_back : (x : P.AbstractCell) (k : Content P.Value) (v : P.Value) → Reads P x k v → Reads P x k v
      reads_back x (given w) v (reads_given {v = v'}) = reads_given
      reads_back x open_cell v (reads_open range) = reads_open range

  -- each pair that is covered by the rows is a solution in terms of members
  pub from_rows : IsSolution P Q
  from_rows = record {
    calcs = calc_covers;
    loads = load_covers;
    loads_any = any_covers;
    stores = store_covers;
    clears = clear_covers;
    locks = lock_covers;
    unlocks = unlock_covers;
    waits = yield_covers;
    finds_held = held_covers;
    finds_free = free_covers;
    listed_calc = λ e ρ k is inside fails. record { state = inside.state; is = inside.is; holds = calculating.fails e inside.state ρ k is inside.temps fails };
    listed_lock = λ e ρ m is inside held. record { state = inside.state; is = inside.is; holds = calculating.relock e inside.state m is held };
    listed_unlock = λ e ρ m is inside foreign. record { state = inside.state; is = inside.is; holds = calculating.foreign e inside.state m is foreign };
    load_target = λ e ρ a t c is inside access. targeted e ρ a c (subst (λ o. IsAddress o a) (sym is) refl) (lively.load_address e a t is) inside access;
    load_any_target = λ e ρ a c is inside access. targeted e ρ a c (subst (λ o. IsAddress o a) (sym is) refl) (lively.load_any_address e a is) inside access;
    store_target = λ e ρ a v c is inside access. targeted e ρ a c (subst (λ o. IsAddress o a) (sym is) refl) (lively.store_address e a v is) inside access;
  }

-- the entries of a store that collects all, heard by Visible and Handed
pub store_heard : (P : Shape) (D : Domain P) (F : Finders P D) → IsDomain P D → IsHearing P D F → (table : Table P D) (st : Store P D) → IsCollected P D F table st → IsHeard P D F table st (λ j l x v. D.In (st.weak j l x) v) (λ j m x v. D.In (st.sync j m x) v)
store_heard P D F laws hearing table st collected = record {
  weak_in = λ e s a v x u is operation target shared h. laws.grows (s.temps v) (st.weak (P.actor e) (P.held (P.from e)) x) u (collected.weak e s a v x is operation target shared) h;
  sync_in = λ e s m x u is operation mine shared p h. laws.grows (s.own x) (st.sync (P.actor e) m x) u (collected.sync e s m x is operation mine shared p) h;
  weak_out = λ e a s x j l u target shared seen h. laws.grows (st.weak j l x) (F.loaded e a s st) u (hearing.loaded_seen e a s st x j l target shared seen) h;
  sync_out = λ i j m x u other h. laws.grows (st.sync j m x) (F.handed st i m x) u (hearing.handed st i j m x other) h;
}

-- a task alone hears nobody, whatever the store is
pub alone_heard : (P : Shape) (D : Domain P) (F : Finders P D) → ((i j : P.Task) → i ≡ j) → (table : Table P D) (st : Store P D) → IsHeard P D F table st (λ _ _ _ _. Unit {0}) (λ _ _ _ _. Unit {0})
alone_heard P D F one table st = record {
  weak_in = λ e s a v x u is operation target shared h. tt;
  sync_in = λ e s m x u is operation mine shared p h. tt;
  weak_out = λ e a s x j l u target shared seen h. absurd (seen.other (one j (P.actor e)));
  sync_out = λ i j m x u other h. absurd (other (one j i));
}
