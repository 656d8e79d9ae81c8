-- What edges touch: step by step, and by the definitions.
use Rattle.std.proofs.Common.{◌≡◌, ◌↔◌, ◌⊎◌, ℕ, ◌+◌, ◌<◌, ◌≤◌, refl, ap, sym, subst, ◌∙◌, inl, inr, Bool, true}
use Rattle.std.proofs.Common.{false}
use Rattle.std.proofs.Common.{List, [], ◌∷◌, ◌++◌, length, get_or, take, Option, Some, None, arith}
use Rattle.std.specs.Prelude.{Contains}
use Rattle.std.specs.Option.{is_some}
use Rattle.std.proofs.lemmas.Bool.{true≢false, cases_eq, cases_lt, or_cases, or_left, or_right}
use Rattle.std.proofs.lemmas.List.{get_or_push, get_or_append_left, length_push, get_or_past}
use Rattle.tm_terms.specs.declared.places.Place.{Place}
use Rattle.flow_graph.specs.declared.operations.Operation.{Operation}
use Rattle.flow_graph.specs.declared.operations.Operation.TheVariants as Op
use Rattle.flow_graph.specs.declared.graphs.Edge.{Edge}
use Rattle.post_recheck.specs.task_equations.Bodies.{no_edge}
use Rattle.post_recheck.specs.transfer_rows.StateForms.{State}
use Rattle.program_reports.specs.Reports.{place_of}
use Rattle.operand_orders.specs.declared.pairs.Pair.{Pair}
use Rattle.operand_orders.specs.declared.accesses.Accesses.{Accesses}
use Rattle.operand_orders.specs.declared.marks.Marks.{Marks}
use Rattle.operand_orders.specs.declared.reached.Access.{Access}
use Rattle.operand_orders.specs.declared.views.BodyView.{BodyView}
use Rattle.operand_orders.specs.Reached.{SolvedBody, operation_at, HasState, IsReached, IsStatic, targets}
use Rattle.operand_orders.specs.Reached.{Loads, Stores}
use Rattle.operand_orders.specs.Reached.Loads.{by_load, by_any}
use Rattle.operand_orders.specs.Reached.Stores.{by_store}
use Rattle.operand_orders.specs.Order.{Waits, IsActing, IsInitialising, IsStoredByOthers}
use Rattle.operand_orders.specs.Order.Waits.{locks, unlocks, yields, probes}
use Rattle.operand_orders.specs.Order.IsActing.{placed, waiting}
use Rattle.access_races.specs.reading.Ways.{HasOne}
use Rattle.operand_orders.specs.reading.Pairs.{pair}
use Rattle.operand_orders.specs.reading.Marks.{IsMarked, AreMarks}
use Rattle.operand_orders.specs.reading.Views.{solved, AreCopiesOf, IsIndexed, state_at}
use Rattle.operand_orders.specs.reading.Touches.{load_of, store_of, access_of, is_waiting, is_acting, HasTarget}
use Rattle.operand_orders.specs.reading.Touches.{HasTargetAt, Reaches, Changes, WaitsAt, StoresSeen, LoadsSeen}
use Rattle.operand_orders.specs.reading.Touches.{IsSeenAt}
use Rattle.operand_orders.specs.reading.Touches.{AreAccesses, IsTableOf, AreMarked, AreMarksOf}
use Rattle.access_races.proofs.Joins.{either, front_more}
use Rattle.operand_orders.proofs.Copies.{state_of_edge, states_in}

-- ## Pairs of an edge and a cell

same_pair : (p : Pair) (edge cell : ℕ) → p.first ≡ edge → p.second ≡ cell → p ≡ pair edge cell
same_pair p edge cell e f = λ i. record { first = e i; second = f i }

pub cells_more : (cells : List ℕ) (i : ℕ) → i < length cells → (edge : ℕ) (p : Pair)
    → ((p.first ≡ edge) × Contains (take (i + 1) cells) p.second)
    ↔ (((p.first ≡ edge) × Contains (take i cells) p.second) ⊎ (p ≡ pair edge (get_or cells i 0)))
cells_more cells i lt edge p = (
  λ h. either (λ before. inl (h.0, before)) (λ same. inr (same_pair p edge (get_or cells i 0) h.0 (sym same)))
      ((front_more cells i 0 lt p.second).0 h.1),
  λ h. either
      (λ (b : (p.first ≡ edge) × Contains (take i cells) p.second).
      (b.0, (front_more cells i 0 lt p.second).1 (inl b.1)))
      (λ (e : p ≡ pair edge (get_or cells i 0)). (
        ap (λ (q : Pair). q.first) e,
        (front_more cells i 0 lt p.second).1 (inr (sym (ap (λ (q : Pair). q.second) e))),
      )) h,
)

-- the same beside another fact
pub beside : {P S F H : Type 0} → (S ↔ (F ⊎ H)) → ((P × S) ↔ ((P × F) ⊎ (P × H)))
beside {P} {S} {F} {H} h = (
  λ x. either (λ f. inl (x.0, f)) (λ k. inr (x.0, k)) (h.0 x.1),
  λ y. either (λ (f : P × F). (f.0, h.1 (inl f.1))) (λ (k : P × H). (k.0, h.1 (inr k.1))) y,
)

module _ (b : SolvedBody) where
  -- one that leaves no state has no target
  pub no_target : (access : Access) (cell copy : ℕ) → state_at b copy ≡ None → HasTarget b access cell copy → ⊥
  no_target access cell copy e h = absurd (let clash : None ≡ Some h.state = sym e ∙ h.is in cc)

  same_state : (s t : State) → Some s ≡ Some t → s ≡ t
  same_state s t e = cc

  pub target_is : (access : Access) (cell copy : ℕ) (s : State) → state_at b copy ≡ Some s → (cells : List ℕ)
      → cells ≡ targets b access.scalar access.address s → Contains cells cell ↔ HasTarget b access cell copy
  target_is access cell copy s e cells is = (
    λ h. record { state = s; is = e; target = subst (λ cs. Contains cs cell) is h },
    λ h. subst (λ cs. Contains cs cell) (sym is)
        (subst (λ t. Contains (targets b access.scalar access.address t) cell)
        (same_state h.state s (sym h.is ∙ e)) h.target),
  )

  pub targets_at_edge : (access : Access) (edge : ℕ) (numbers : List ℕ) → AreCopiesOf b.copies edge numbers
      → (cell : ℕ) → HasOne (λ (k : ℕ). HasTarget b access cell k) numbers ↔ HasTargetAt b access edge cell
  targets_at_edge access edge numbers are cell = (
    λ h. record {
      state = h.is.state;
      has = state_of_edge b edge numbers are h.is.state h.one h.has h.is.is;
      target = h.is.target;
    },
    λ h. let found = states_in b edge numbers are h.state h.has in record {
      one = found.one;
      has = found.has;
      is = record { state = h.state; is = found.is; target = h.target };
    },
  )

  -- ## Edges

  pub edges_more : (stores : Bool) (n : ℕ) (p : Pair) → ((p.first < n + 1) × Reaches b stores p.first p.second)
      ↔ (((p.first < n) × Reaches b stores p.first p.second) ⊎ ((p.first ≡ n) × Reaches b stores n p.second))
  edges_more stores n p = (
    λ h. either
        (λ (same : p.first ≡ n). inr (same, subst (λ e. Reaches b stores e p.second) same h.1))
        (λ other. inl ((let lt = h.0 in omega (arith, lt, other)), h.1)) (cases_eq p.first n),
    λ h. either
        (λ (o : (p.first < n) × Reaches b stores p.first p.second). ((let lt = o.0 in omega (arith, lt)), o.1))
        (λ (s : (p.first ≡ n) × Reaches b stores n p.second). (
          (let e = s.0 in omega (arith, e)),
          subst (λ e. Reaches b stores e p.second) (sym s.0) s.1,
        )) h,
  )

  -- one without an access reaches nothing
  pub reaches_nothing : (stores : Bool) (edge cell : ℕ) → access_of stores (operation_at b edge) ≡ None
      → Reaches b stores edge cell → ⊥
  reaches_nothing stores edge cell e h = absurd (let clash : None ≡ Some h.access = sym e ∙ h.is in cc)

  same_access : (a c : Access) → Some a ≡ Some c → a ≡ c
  same_access a c e = cc

  pub reaches_by : (stores : Bool) (edge cell : ℕ) (access : Access)
      → access_of stores (operation_at b edge) ≡ Some access
      → HasTargetAt b access edge cell ↔ Reaches b stores edge cell
  reaches_by stores edge cell access e = (
    λ h. record { access = access; is = e; target = h },
    λ h. subst (λ a. HasTargetAt b a edge cell) (same_access h.access access (sym h.is ∙ e)) h.target,
  )

  -- ## By the definitions

  with_operation : (edge : ℕ) (op : Operation) (s : State) → HasState b edge (operation_at b edge) s
      → operation_at b edge ≡ op → HasState b edge op s
  with_operation edge op s h e =
      record { number = h.number; copy = h.copy; is = h.is; of = h.of; state = h.state; operation = e }

  without_operation : (edge : ℕ) (op : Operation) (s : State) → HasState b edge op s
      → HasState b edge (operation_at b edge) s
  without_operation edge op s h =
      record { number = h.number; copy = h.copy; is = h.is; of = h.of; state = h.state; operation = refl }

  module _ (edge cell : ℕ) where
    load_case : (op : Operation) (access : Access) → operation_at b edge ≡ op → load_of op ≡ Some access
        → HasTargetAt b access edge cell → Loads b edge cell
    unfolding load_of
    load_case (Op.Load to address scalar place) access e is h =
        let same : record { address = address; scalar = scalar } ≡ access = same_access _ access is in
        by_load h.state (with_operation edge (Op.Load to address scalar place) h.state h.has e)
        (subst (λ (a : Access). Contains (targets b a.scalar a.address h.state) cell) (sym same) h.target)
    load_case (Op.LoadAny to address scalar place) access e is h =
        let same : record { address = address; scalar = scalar } ≡ access = same_access _ access is in
        by_any h.state (with_operation edge (Op.LoadAny to address scalar place) h.state h.has e)
        (subst (λ (a : Access). Contains (targets b a.scalar a.address h.state) cell) (sym same) h.target)
    load_case _ access e is h = absurd cc

    load_back : Loads b edge cell → Reaches b false edge cell
    unfolding load_of
    load_back (by_load {to = to} {address = address} {scalar = scalar} {place = place} s has target) = record {
      access = record { address = address; scalar = scalar };
      is = ap load_of has.operation;
      target = record {
        state = s;
        has = without_operation edge (Op.Load to address scalar place) s has;
        target = target;
      };
    }
    load_back (by_any {to = to} {address = address} {scalar = scalar} {place = place} s has target) = record {
      access = record { address = address; scalar = scalar };
      is = ap load_of has.operation;
      target = record {
        state = s;
        has = without_operation edge (Op.LoadAny to address scalar place) s has;
        target = target;
      };
    }

    pub loads_are : Reaches b false edge cell ↔ Loads b edge cell
    loads_are = (λ h. load_case (operation_at b edge) h.access refl h.is h.target, load_back)

    store_case : (op : Operation) (access : Access) → operation_at b edge ≡ op → store_of op ≡ Some access
        → HasTargetAt b access edge cell → Stores b edge cell
    unfolding store_of
    store_case (Op.Store address value scalar into place) access e is h =
        let same : record { address = address; scalar = scalar } ≡ access = same_access _ access is in
        by_store h.state (with_operation edge (Op.Store address value scalar into place) h.state h.has e)
        (subst (λ (a : Access). Contains (targets b a.scalar a.address h.state) cell) (sym same) h.target)
    store_case _ access e is h = absurd cc

    store_back : Stores b edge cell → Reaches b true edge cell
    unfolding store_of
    store_back (by_store {address = address} {scalar = scalar} s has target) = record {
      access = record { address = address; scalar = scalar };
      is = ap store_of has.operation;
      target = record { state = s; has = without_operation edge _ s has; target = target };
    }

    pub stores_are : Reaches b true edge cell ↔ Stores b edge cell
    stores_are = (λ h. store_case (operation_at b edge) h.access refl h.is h.target, store_back)

-- ## Waiting and acting

pub waits_case : (op : Operation) → is_waiting op ≡ true → Waits op
unfolding is_waiting
waits_case (Op.Lock mutex place) e = locks
waits_case (Op.Unlock mutex place) e = unlocks
waits_case Op.Yield e = yields
waits_case (Op.Probe to mutex place) e = probes
waits_case _ e = absurd cc

pub waits_back : (op : Operation) → Waits op → is_waiting op ≡ true
unfolding is_waiting
waits_back _ locks = refl
waits_back _ unlocks = refl
waits_back _ yields = refl
waits_back _ probes = refl

some_place : (at : Option Place) → is_some at ≡ true → (place : Place) × (at ≡ Some place)
some_place None e = absurd cc
some_place (Some place) e = (place, refl)

pub acting_is : (op : Operation) → (is_acting op ≡ true) ↔ IsActing op
acting_is op = (
  λ e. either (λ w. waiting (waits_case op w))
      (λ s. let found = some_place (place_of op) s in placed found.0 found.1)
      (or_cases (is_waiting op) (is_some (place_of op)) e),
  back,
)
  where
    back : IsActing op → is_acting op ≡ true
    back (placed place e) = or_right (is_waiting op) (is_some (place_of op)) (ap is_some e)
    back (waiting w) = or_left (is_waiting op) (is_some (place_of op)) (waits_back op w)

-- ## What there is not

module _ (view : BodyView) (is : IsIndexed view) where
  pub state_below : (edge : ℕ) (op : Operation) (s : State) → HasState (solved view) edge op s
      → edge < length view.edges.now
  state_below edge op s h = (let below = is.below h.number h.copy h.is in let of = h.of in omega (arith, below, of))

  module _ (edge : ℕ) where
    loads_below : (cell : ℕ) → Loads (solved view) edge cell → edge < length view.edges.now
    loads_below cell (by_load s has target) = state_below edge _ s has
    loads_below cell (by_any s has target) = state_below edge _ s has

    stores_below : (cell : ℕ) → Stores (solved view) edge cell → edge < length view.edges.now
    stores_below cell (by_store s has target) = state_below edge _ s has

    pub seen_below : IsSeenAt (solved view) edge → edge < length view.edges.now
    seen_below (inl w) = state_below edge (operation_at (solved view) edge) w.state w.has
    seen_below (inr (inl s)) = stores_below s.cell s.stores
    seen_below (inr (inr l)) = loads_below l.cell l.loads

no_wait : Waits Op.Skip → ⊥
no_wait w = elim w [ ]

no_act : IsActing Op.Skip → ⊥
unfolding place_of
no_act (placed place e) = absurd cc
no_act (waiting w) = no_wait w

-- an edge that there is not does not act
pub acts_nowhere : (b : SolvedBody) (edge : ℕ) → length b.edges ≤ edge → IsActing (operation_at b edge) → ⊥
acts_nowhere b edge le h =
    no_act (subst IsActing (ap (λ (e : Edge). e.op) (get_or_past b.edges edge no_edge le)) h)

-- ## Marks

pub record AreMarkedBelow (Is : ℕ → Type 0) (n : ℕ) (marks : List Bool) : Type 0 where
  pub count : length marks ≡ n
  pub each : (k : ℕ) → k < n → IsMarked marks k ↔ Is k

module _ (Is : ℕ → Type 0) where
  pub marks_more : (n : ℕ) (old new : List Bool) (m : Bool) → AreMarkedBelow Is n old → new ≡ old ++ m ∷ []
      → ((m ≡ true) ↔ Is n) → AreMarkedBelow Is (n + 1) new
  marks_more n old new m h is here = record {
    count = ap length is ∙ length_push old m ∙ ap (λ k. k + 1) h.count;
    each = λ k lt. subst (λ xs. IsMarked xs k ↔ Is k) (sym is)
        (either
        (λ (same : k ≡ n). subst (λ j. IsMarked (old ++ m ∷ []) j ↔ Is j) (sym same)
        (subst (λ x. (x ≡ true) ↔ Is n) (sym (get_or_push old m false n h.count)) here))
        (λ other. let below : k < n = omega (arith, lt, other) in let count = h.count in
        subst (λ x. (x ≡ true) ↔ Is k)
        (sym (get_or_append_left old (m ∷ []) false k (omega (arith, below, count)))) (h.each k below)) (cases_eq k n));
  }

  pub marks_all : (n : ℕ) (marks : List Bool) → AreMarkedBelow Is n marks → ((k : ℕ) → n ≤ k → Is k → ⊥)
      → AreMarked Is marks
  marks_all n marks h beyond k =
      either (λ lt. h.each k lt)
      (λ le. (
        λ m. absurd (true≢false (sym m ∙ get_or_past marks k false (let count = h.count in omega (arith, count, le)))),
        λ is. absurd (beyond k le is),
      )) (cases_lt k n)

-- ## Stores that are not by initialisers

pub change_more : (Is : ℕ → Type 0) (xs : List Pair) (i : ℕ) → i < length xs → (p : Pair)
    → (Contains (take (i + 1) xs) p × (Is p.first → ⊥))
    ↔ ((Contains (take i xs) p × (Is p.first → ⊥))
    ⊎ (((let q = get_or xs i (pair 0 0) in Is q.first) → ⊥) × (p ≡ get_or xs i (pair 0 0))))
change_more Is xs i lt p = (
  λ h. either (λ before. inl (before, h.1))
      (λ same. inr (subst (λ (q : Pair). Is q.first → ⊥) (sym same) h.1, sym same))
      ((front_more xs i (pair 0 0) lt p).0 h.0),
  λ h. either
      (λ (o : Contains (take i xs) p × (Is p.first → ⊥)). ((front_more xs i (pair 0 0) lt p).1 (inl o.0), o.1))
      (λ (s : ((let q = get_or xs i (pair 0 0) in Is q.first) → ⊥) × (p ≡ get_or xs i (pair 0 0))). (
        (front_more xs i (pair 0 0) lt p).1 (inr (sym s.1)),
        subst (λ (q : Pair). Is q.first → ⊥) (sym s.1) s.0,
      )) h,
)

-- ## Tables

module _ (Is : ℕ → ℕ → Type 0) (given : List Pair) (a : Accesses) (made : AreAccesses given a) where
  pub in_order_is : AreAccesses a.by_edge.items a
  in_order_is = record {
    by_edge = made.by_edge;
    same = λ p. (λ h. h, λ h. h);
    by_cell = made.by_cell;
    others = made.others;
  }

  pub table_is : ((p : Pair) → Contains given p ↔ Is p.first p.second) → IsTableOf Is a
  table_is exact = record {
    table = in_order_is;
    exact = λ edge cell. (
      λ h. (exact (pair edge cell)).0 ((made.same (pair edge cell)).0 h),
      λ h. (made.same (pair edge cell)).1 ((exact (pair edge cell)).1 h),
    );
  }

-- the same by other words
pub retold : (Is Are : ℕ → ℕ → Type 0) → ((edge cell : ℕ) → Is edge cell ↔ Are edge cell) → (given : List Pair)
    → ((p : Pair) → Contains given p ↔ Is p.first p.second) → (p : Pair) → Contains given p ↔ Are p.first p.second
retold Is Are same given exact p = (
  λ h. (same p.first p.second).0 ((exact p).0 h),
  λ h. (exact p).1 ((same p.first p.second).1 h),
)

pub changes_told : (b : SolvedBody) (stores : Accesses) → IsTableOf (Stores b) stores → (given : List Pair)
    → ((p : Pair) → Contains given p ↔ (Contains stores.by_edge.items p × (IsInitialising b p.first → ⊥)))
    → (p : Pair) → Contains given p ↔ Changes b p.first p.second
changes_told b stores table given exact p = (
  λ h. let r = (exact p).0 h in ((table.exact p.first p.second).0 r.0, r.1),
  λ h. (exact p).1 ((table.exact p.first p.second).1 h.0, h.1),
)

-- ## Marks and what is looked up of them

pub marks_told : (Is : ℕ → Type 0) (marks : List Bool) → AreMarked Is marks → (made : Marks) → AreMarks marks made
    → AreMarksOf Is made
marks_told Is marks exact made h = record {
  marks = subst (λ ms. AreMarks ms made) (sym h.marks) h;
  exact = subst (AreMarked Is) (sym h.marks) exact;
}

-- ## Edges that wait or are seen

module _ (b : SolvedBody) (edge : ℕ) where
  pub waits_then : is_waiting (operation_at b edge) ≡ true → (r : Bool) → ((r ≡ true) ↔ IsReached b edge)
      → (r ≡ true) ↔ WaitsAt b edge
  waits_then e r exact = (
    λ t. let reach = exact.0 t in
        record { state = reach.state; has = reach.has; waits = waits_case (operation_at b edge) e },
    λ w. exact.1 (record { state = w.state; has = w.has }),
  )

  pub waits_else : is_waiting (operation_at b edge) ≡ false → (false ≡ true) ↔ WaitsAt b edge
  waits_else e = (
    λ t. absurd (true≢false (sym t)),
    λ w. absurd (true≢false (sym (waits_back (operation_at b edge) w.waits) ∙ e)),
  )

  pub stores_seen_is : (a : Accesses) → IsTableOf (Stores b) a → (ws : List Pair)
      → ((p : Pair) → Contains ws p ↔ (Contains a.by_edge.items p × (p.first ≡ edge)))
      → HasOne (λ (p : Pair). IsStatic b p.second) ws ↔ StoresSeen b edge
  stores_seen_is a table ws exact = (
    λ h. let w = (exact h.one).0 h.has in record {
      cell = h.one.second;
      static = h.is;
      stores = subst (λ e. Stores b e h.one.second) w.1 ((table.exact h.one.first h.one.second).0 w.0);
    },
    λ s. record {
      one = pair edge s.cell;
      has = (exact (pair edge s.cell)).1 ((table.exact edge s.cell).1 s.stores, refl);
      is = s.static;
    },
  )

  pub loads_seen_is : (a : Accesses) → IsTableOf (Loads b) a → (ws : List Pair)
      → ((p : Pair) → Contains ws p ↔ (Contains a.by_edge.items p × (p.first ≡ edge)))
      → HasOne (λ (p : Pair). IsStatic b p.second × IsStoredByOthers b p.second) ws ↔ LoadsSeen b edge
  loads_seen_is a table ws exact = (
    λ h. let w = (exact h.one).0 h.has in record {
      cell = h.one.second;
      static = h.is.0;
      others = h.is.1;
      loads = subst (λ e. Loads b e h.one.second) w.1 ((table.exact h.one.first h.one.second).0 w.0);
    },
    λ s. record {
      one = pair edge s.cell;
      has = (exact (pair edge s.cell)).1 ((table.exact edge s.cell).1 s.loads, refl);
      is = (s.static, s.others);
    },
  )
