-- Along an edge from a node with a state, what the row gives lies below a state of the table.
use Rattle.std.specs.Prelude.{◌≡◌, ℕ, ◌<◌, Bool, true, false, List, length, Option, Some, None, IfSome}
use Rattle.std.proofs.Common.{refl, ap, subst, ◌∙◌}
use Rattle.std.specs.Ordering.{nat_cmp}
use Rattle.std.specs.FinMap.{get, get-empty}
use Rattle.program_shape.specs.tm_typed.declared.types.Scalar.{Scalar}
use Rattle.program_shape.specs.tm_typed.declared.types.Scalar.TheVariants.{Int, Pointer}
use Rattle.program_shape.specs.tm_laid.Layouts.{LaidTree}
use Rattle.program_shape.specs.mutex_configs.declared.nodes.ConfiguredNode.{ConfiguredNode}
use Rattle.program_shape.specs.mutex_configs.Sets.{leads_nowhere}
use Rattle.program_reports.specs.pointer_dom.OffsetSets.{OffsetSet}
use Rattle.program_reports.specs.pointer_dom.PointerSets.{Pointers}
use Rattle.program_reports.specs.pointer_dom.Pointer.{ScalarValue}
use Rattle.program_reports.specs.pointer_dom.Values.{Values, IsValueIn}
use Rattle.program_reports.specs.interfere_set.Stores.{Interferences}
use Rattle.program_reports.specs.transfer_rows.StateForms.{Temp, State, temp_value, own_of}
use Rattle.program_reports.specs.transfer_rows.Actions.{Action}
use Rattle.program_reports.specs.transfer_rows.Accesses.{is_among}
use Rattle.program_reports.specs.transfer_rows.Rows.{after}
use Rattle.program_reports.specs.transfer_rows.Meanings.{Valuation}
use Rattle.program_reports.specs.transfer_rows.Covering.{AreIn, HasTemp, HasCell, AreSized, IsCopyOf, IsPending}
use Rattle.program_reports.specs.transfer_rows.Covering.{IsFresh, IsStored}
use Rattle.program_reports.proofs.low.transfer_rows.CoverSteps.{none_some}
use Rattle.program_reports.specs.typed_values.Types.{IsOfType}
use Rattle.program_reports.specs.table_covers.Solutions.{NodeTable, IsSolution}
use Rattle.program_reports.specs.temporary_types.Sorts.{Sort}
use Rattle.program_reports.specs.temporary_types.Sorts.{types_of}
use Rattle.program_reports.specs.state_fits.Kinds.{OfTypes}
use Rattle.program_reports.specs.state_fits.Fits.{FitsTemp, FitsCell, FitsPlace, IsSeenCell}
use Rattle.program_reports.specs.task_equations.Bodies.{node_at, live_at}
use Rattle.program_reports.specs.task_equations.Equations.{equations_of}
use Rattle.program_reports.specs.task_equations.laws.Extents.{node_typed}
use Rattle.program_reports.specs.program_equations.Programs.{ProgramBodies, body_at, IsProgram}
use Rattle.program_reports.specs.program_equations.Systems.{states, FitsBody, FitsProgram}
use Rattle.program_shape.specs.tm_soundness.Numbered.{TaskOf}
use Rattle.program_shape.specs.Shape.{Node, Copy, from_of, to_of}
use Rattle.sound_tables.specs.Programs.{part_of}
use Rattle.sound_tables.specs.Premises.{IsGraphOf}
use Rattle.sound_tables.specs.Meanings.{sizes_of}
use Rattle.sound_tables.specs.Memberships.{found_at, number_at, there, left, state_at, around_copy, action_copy}
use Rattle.sound_tables.proofs.Copies.{numbered}
use Rattle.sound_tables.proofs.Led.{IsLed, edge_leads, if_some}
use Rattle.sound_tables.proofs.Raised.{up_in, up_own, up_pending, down_fresh, down_stored, down_copy}

-- ## States that fit

module _ (laid : LaidTree) (task : ℕ) (types : ℕ → Scalar) (live : List ℕ) (s : State)
    (fits : FitsPlace laid task (OfTypes laid types) live s) where
  size_by : (scalar : Scalar) (v : Values) → IsOfType laid scalar v → (object : ℕ) (o : OffsetSet)
      → get v.pointers.objects object ≡ Some o → o.size ≡ sizes_of laid object
  size_by (Int t) v h object o at =
      absurd (none_some (get v.pointers.objects object) o
      (ap (λ (q : Pointers). get q.objects object) h.1 ∙ get-empty nat_cmp object) at)
  size_by (Pointer class) v h object o at = (h.2 object o at).1

  size_at : (t : ℕ) (a : Option Temp) → FitsTemp (OfTypes laid types) live t a → (object : ℕ) (o : OffsetSet)
      → get (temp_value a).pointers.objects object ≡ Some o → o.size ≡ sizes_of laid object
  size_at t None h object o at =
      absurd (none_some (get (temp_value None).pointers.objects object) o (get-empty nat_cmp object) at)
  size_at t (Some e) h object o at = size_by (types t) e.value h.1 object o at

  -- the objects of its temporaries have their sizes
  pub are_sized : AreSized (sizes_of laid) s
  are_sized = record { size = λ t object o at. size_at t (get s.temps t) (fits.temps t) object o at }

  some_of : {A : Type 0} (a : Option A) → (a ≡ None → ⊥) → (e : A) × (a ≡ Some e)
  some_of None h = absurd (h refl)
  some_of (Some e) h = (e, refl)

  true_false : (b : Bool) → b ≡ true → b ≡ false → ⊥
  true_false b t f = cc

  -- a live temporary has a value
  pub live_has : (t : ℕ) → is_among live t ≡ true → HasTemp s t
  live_has t is =
      let k = some_of (get s.temps t) (λ none. true_false (is_among live t) is
      (subst (FitsTemp (OfTypes laid types) live t) none (fits.temps t))) in
      record { entry = k.0; stands = k.1 }

  -- a cell that is static or the task's own has an entry
  pub seen_has : (x : ℕ) → IsSeenCell laid task x → HasCell s x
  seen_has x seen =
      let k = some_of (get s.cells x) (λ none. subst (FitsCell laid task x) none (fits.cells x) seen) in
      record { entry = k.0; stands = k.1 }

  pub has_seen : (x : ℕ) → HasCell s x → IsSeenCell laid task x
  has_seen x h = (subst (FitsCell laid task x) h.stands (fits.cells x)).0

module _ (p : ProgramBodies) (is : IsProgram p) (n : ℕ) (number : TaskOf n → ℕ) (rank : ℕ → ℕ)
    (within : (i : TaskOf n) → number i < length p.bodies) (graphs : (i : TaskOf n) → IsGraphOf p (number i))
    (tables : ℕ → NodeTable State) (store : Interferences) (store-fits : FitsProgram p store)
    (entry : TaskOf n → Option State)
    (entry-fits : (i : TaskOf n) → IfSome (entry i) (FitsBody (body_at p (number i)) 0))
    (solves : (i : TaskOf n) → IsSolution states (FitsBody (body_at p (number i)))
    (equations_of (body_at p (number i)) (entry i) store) (tables (number i))) where
  abbrev pub sorts_at : TaskOf n → List Sort
  sorts_at i = is.sorts (number i)

  abbrev Edges : Type 0
  Edges = Copy (part_of p n number rank)

  abbrev reached : Node (part_of p n number rank) → Option State
  reached q = state_at p n number rank tables q

  abbrev pub Fits : TaskOf n → ℕ → State → Type 0
  Fits i place s =
      FitsPlace p.laid (number i) (OfTypes p.laid (types_of (sorts_at i))) (live_at (body_at p (number i)) place) s

  -- a state that fits a node fits its place
  pub fits_place : (i : TaskOf n) (k : ℕ) (q : ConfiguredNode) (s : State) → node_at (body_at p (number i)) k ≡ q
      → FitsBody (body_at p (number i)) k s → Fits i q.place s
  fits_place i k q s node fits =
      let b = body_at p (number i) in
      let at = is.each (number i) (within i) in
      let h = node_typed b (sorts_at i) at.body k s fits in
      subst (λ (r : ConfiguredNode). Fits i r.place s) node
      (subst (λ t. (let r = node_at b k in
      FitsPlace p.laid t (OfTypes p.laid (types_of (sorts_at i))) (live_at b r.place) s))
      at.numbered.number
      (subst (λ l. (let r = node_at b k in
      FitsPlace l b.task (OfTypes l (types_of (sorts_at i))) (live_at b r.place) s))
      at.numbered.laid h))

  -- the state of a node fits its place
  pub state_fits : (q : Node (part_of p n number rank)) (s : State) → reached q ≡ Some s → Fits q.task q.place s
  state_fits q s at =
      let i = q.task in
      let b = body_at p (number i) in
      let k = found_node (number_at p (number i) (there p n number rank tables q)) s at in
      let node = numbered b.nodes (there p n number rank tables q) k.0 k.1 in
      fits_place i k.0 (there p n number rank tables q) s node.1
      (if_some (FitsBody b k.0) (tables (number i) k.0) s k.2 ((solves i).fits k.0 node.0))
    where
      found_node : (o : Option ℕ) (r : State) → found_at (tables (number q.task)) o ≡ Some r
          → (m : ℕ) × (o ≡ Some m) × (tables (number q.task) m ≡ Some r)
      found_node None r h = absurd (cc)
      found_node (Some m) r h = (m, refl, h)

  -- the node to which the edge leads has a state that lies above this one
  pub record IsCovered (e : Copy (part_of p n number rank)) (s : State) : Type 0 where
    pub state : State
    pub stands : state_at p n number rank tables (to_of (part_of p n number rank) e) ≡ Some state
    pub in_raised : (temps : Valuation) → AreIn s temps → AreIn state temps
    pub own_raised : (x : ℕ) (v : ScalarValue) → IsValueIn (own_of s x) v → IsValueIn (own_of state x) v
    pub pending_raised : (x m : ℕ) → IsPending s x m → IsPending state x m
    pub fresh_lowered : (x : ℕ) → IsFresh state x → IsFresh s x
    pub stored_lowered : (x : ℕ) → IsStored state x → IsStored s x
    pub copy_lowered : (t x : ℕ) → IsCopyOf state t x → IsCopyOf s t x
    pub cells : (x : ℕ) → IsSeenCell p.laid (number e.actor) x → HasCell state x

  pub covered : (e : Edges) (s : State) → reached (from_of (part_of p n number rank) e) ≡ Some s
      → leads_nowhere e.edge.op e.answer e.held ≡ false → (a : Action) → action_copy p n number rank tables e ≡ a
      → (s' : State) → after (around_copy p n number rank tables e) a s store ≡ Some s' → IsCovered e s'
  covered e s at leads a same s' gives =
      let i = e.actor in
      let b = body_at p (number i) in
      let around = around_copy p n number rank tables e in
      let led : IsLed p is (number i) (within i) store store-fits (entry i) (entry-fits i) (tables (number i))
      (solves i) (graphs i) (there p n number rank tables (to_of (part_of p n number rank) e)) s' =
      edge_leads p is (number i) (within i) store store-fits (entry i) (entry-fits i) (tables (number i))
      (solves i) (graphs i) (left p n number rank tables e) e.edge e.answer e.among refl e.answered s at leads s'
      (ap (λ x. after around x s store) same ∙ gives) in
      let arrival = led.arrival in
      let q = there p n number rank tables (to_of (part_of p n number rank) e) in
      let node = numbered b.nodes q led.number led.at in
      let low : Fits i e.edge.to s' = fits_place i led.number q s' node.1 arrival.fits in
      let high : Fits i e.edge.to arrival.state = fits_place i led.number q arrival.state node.1 arrival.state_fits in
      let types = types_of (sorts_at i) in
      let live = live_at b e.edge.to in
      record {
        state = arrival.state;
        stands = ap (found_at (tables (number i))) led.at ∙ arrival.stands;
        in_raised = up_in p.laid (number i) types live s' arrival.state low high arrival.under;
        own_raised = up_own p.laid (number i) types live s' arrival.state low high arrival.under;
        pending_raised = up_pending p.laid (number i) types live s' arrival.state low high arrival.under;
        fresh_lowered = down_fresh p.laid (number i) types live s' arrival.state low high arrival.under;
        stored_lowered = down_stored p.laid (number i) types live s' arrival.state low high arrival.under;
        copy_lowered = down_copy p.laid (number i) types live s' arrival.state low high arrival.under;
        cells = seen_has p.laid (number i) types live arrival.state high;
      }
