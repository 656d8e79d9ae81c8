-- Where the store of a body lies below another, what is closed over the greater store is closed over the lesser one, and
-- the least assignment over the lesser one is one from which the least over the greater is found.
use Rattle.std.specs.Prelude.{ℕ, ◌<◌, Bool, true, false, cond, slice_index_or, Option, Some, None, IfSome}
use Rattle.std.specs.Option.{option_map}
use Rattle.least_assignments.specs.tm_lattice.declared.lattices.Lattice as lattice
use Rattle.least_assignments.specs.tm_lattice.LatticeLaws.{IsOrder}
use Rattle.least_assignments.specs.tm_lattice.Tables.{IsBelow}
use Rattle.least_assignments.specs.Constraints.{Assignment, Constraints, AreLawful, AreFitting, target}
use Rattle.least_assignments.specs.Solutions.{IsClosed, IsLeast, IsLeastAbove}
use Rattle.least_assignments.proofs.Options.{transitive}
use Rattle.table_covers.specs.Solutions.{brought}
use Rattle.table_covers.specs.laws.Closing.{reflexive}
use Rattle.pointer_dom.specs.Values.{Values as CellValues, IsValues, IsValuesBelow, joined_values, no_value}
use Rattle.pointer_dom.specs.laws.ValueLaws.{values_order, values_join}
use Rattle.interfere_set.specs.Stores.{Interferences, IsStore, IsStoreBelow, handed}
use Rattle.interfere_set.specs.laws.Joins.{none_is}
use Rattle.interfere_set.specs.laws.Hearing.{handed_is, handed_rises, cond_is, cond_same}
use Rattle.edge_actions.specs.transfer_rows.StateForms.{Cell, State, IsCellForm, IsStateForm, IsCellUnder, IsStateUnder}
use Rattle.edge_actions.specs.transfer_rows.Actions.{Around, Action, skips, gives, refines, loads, loads_any, stores}
use Rattle.edge_actions.specs.transfer_rows.Actions.{clears, locks, unlocks, yields, probes}
use Rattle.edge_actions.specs.transfer_rows.Rows.{after, aged, released, taken}
use Rattle.edge_actions.proofs.low.transfer_rows.RowsRise.{after_rises}
use Rattle.edge_actions.proofs.ActionForms.{edge_is}
use Rattle.mutex_configs.specs.declared.nodes.EdgeCopy.{EdgeCopy}
use Rattle.task_equations.specs.state_fits.laws.PlacesFit.{states_order}
use Rattle.task_equations.specs.Bodies.{Body, copy_at, edge_of}
use Rattle.task_equations.specs.Equations.{tests_pointer, action_along, around_along, led, after_along}
use Rattle.task_equations.specs.Premises.{FitsBody}
use Rattle.sparse_rows.specs.Carried.{carried_by}
use Rattle.sparse_rows.specs.StateParts.{states}
use Rattle.sparse_bodies.specs.Carries.{carry_along}
use Rattle.front_constraints.specs.declared.standings.Standing.{Standing}
use Rattle.front_constraints.specs.Standings.{standings, HasParts, IsStandingBelow, joined_standing, changed_standing}
use Rattle.front_constraints.specs.Systems.{SparseSystem, Variable, front_at, open_at, slot_at, Rule, entered, row, flow}
use Rattle.front_constraints.specs.Systems.{edges, from, to, kept_at, IsRule}
use Rattle.front_constraints.specs.Rules.{standing, small_at, part_of, targets_of, passed, carried_along, brings}
use Rattle.front_constraints.specs.Rules.{front_constraints, FitsVariable, Allows}
use Rattle.front_constraints.specs.Premises.{IsSparseSystem}
use Rattle.front_constraints.specs.laws.StandingLaws.{standing_order}
use Rattle.front_constraints.specs.laws.Lawful.{are_lawful, kept_slot, part_rises, small_at_fits, standing_fits}
use Rattle.body_systems.specs.Systems.{SystemOf, body_of}
use Rattle.body_fronts.specs.FrontForms.{fronts, cells, FitsFront, FitsCellAt}
use Rattle.body_fronts.specs.laws.Fitting.{cells_order}
use Rattle.body_slots.specs.Slots.{Slots, SlotSystemOf, IsSlotSystem, sparse_of, AllowsSlots}
use Rattle.body_slots.specs.Rows.{Stand, Values}
use Rattle.body_slots.specs.laws.Chosen.{slots_are_sparse}

-- ## Systems whose edges bring less

module _ {V F D L M N : Type 0} (states : lattice.Ghosts V L) (fronts : lattice.Ghosts F M) (cells : lattice.Ghosts D N)
    (suits : ℕ → V → Type 0) (fits_front : ℕ → F → Type 0) (fits_cell : ℕ → D → Type 0) (sys : SparseSystem V F D)
    (after' : ℕ → V → Option V) (carry' : ℕ → ℕ → D → D) where
  abbrev S : Type 0
  S = Standing F D

  abbrev Below : Option S → Option S → Type 0
  Below y z = IsBelow (IsStandingBelow fronts.leq cells.leq) y z

  -- the system with this for what its edges lead to, and for what they make of cells that they carry
  abbrev other : SparseSystem V F D
  other = record sys { equations = record (sys.equations) { after = after' }; carry = carry' }

  -- its edges lead to less, and make less of cells that they carry
  record BringsLess : Type 0 where
    leads : (e : ℕ) (s : V) → e < edges sys → suits (from sys e) s
        → IsBelow states.leq (after' e s) (sys.equations.after e s)
    makes : (e x : ℕ) (d : D) → fits_cell x d → cells.leq (carry' e x d) (sys.carry e x d)

  choice_below : (b : Bool) (p q p' q' : Option S) → Below p p' → Below q q' → Below (cond b p q) (cond b p' q')
  choice_below true p q p' q' first second = first
  choice_below false p q p' q' first second = second

  passed_below : (y z z' : Option S) → Below z z' → Below (passed y z) (passed y z')
  passed_below None z z' le = tt
  passed_below (Some w) z z' le = le

  module _ (is : IsSparseSystem states fronts cells suits fits_front fits_cell sys)
      (is' : IsSparseSystem states fronts cells suits fits_front fits_cell other) (less : BringsLess) where
    abbrev FitsAt : ℕ → S → Type 0
    FitsAt = FitsVariable sys fits_front fits_cell

    abbrev FitsAt' : ℕ → S → Type 0
    FitsAt' = FitsVariable other fits_front fits_cell

    -- what stands in a slot of the cell
    abbrev InSlot : ℕ → S → Type 0
    InSlot x w = HasParts (λ (f : F). ⊥) (fits_cell x) w

    row_below : (e : ℕ) → e < edges sys → (y : Option V) → IfSome y (suits (from sys e)) → (v : Variable)
        → Below (part_of other (brought (after' e) y) v) (part_of sys (brought (sys.equations.after e) y) v)
    row_below e lt None fits v = tt
    row_below e lt (Some s) fits v =
        part_rises states fronts cells suits fits_front fits_cell sys is (to sys e) (after' e s)
        (sys.equations.after e s) (is'.law.after_fits e s lt fits) (is.law.after_fits e s lt fits)
        (less.leads e s lt fits) v

    no_front_below : (y : Option F) → IfSome y (λ (f : F). ⊥) → IsBelow fronts.leq (option_map (λ (f : F). f) y)
        (option_map (λ (f : F). f) y)
    no_front_below None h = tt
    no_front_below (Some f) h = absurd h

    cell_below : (e x : ℕ) (y : Option D) → IfSome y (fits_cell x)
        → IsBelow cells.leq (option_map (carry' e x) y) (option_map (sys.carry e x) y)
    cell_below e x None h = tt
    cell_below e x (Some d) h = less.makes e x d h

    changed_below : (e x : ℕ) (y : Option S) → IfSome y (InSlot x)
        → Below (option_map (changed_standing (λ f. f) (carry' e x)) y)
        (option_map (changed_standing (λ f. f) (sys.carry e x)) y)
    changed_below e x None h = tt
    changed_below e x (Some w) h = record {
      front = no_front_below w.front h.front;
      cell = cell_below e x w.cell h.cell;
    }

    no_front_itself : (y : Option F) → IfSome y (λ (f : F). ⊥) → IsBelow fronts.leq y y
    no_front_itself None h = tt
    no_front_itself (Some f) h = absurd h

    cell_itself : (x : ℕ) (y : Option D) → IfSome y (fits_cell x) → IsBelow cells.leq y y
    cell_itself x None h = tt
    cell_itself x (Some d) h = is.cell_order.reflexive d ((is.cell_values x).value d h)

    slot_itself : (x : ℕ) (y : Option S) → IfSome y (InSlot x) → Below y y
    slot_itself x None h = tt
    slot_itself x (Some w) h = record {
      front = no_front_itself w.front h.front;
      cell = cell_itself x w.cell h.cell;
    }

    along_below : (e x : ℕ) (y : Option S) → IfSome y (InSlot x)
        → Below (carried_along other e x y) (carried_along sys e x y)
    along_below e x y h =
        choice_below (sys.place.carries e x) (option_map (changed_standing (λ f. f) (carry' e x)) y) y
        (option_map (changed_standing (λ f. f) (sys.carry e x)) y) y (changed_below e x y h) (slot_itself x y h)

    brings_below : (r : Rule) → IsRule sys r → (a : Assignment S) → AreFitting (front_constraints sys) FitsAt a
        → (v : Variable) → Below (brings other r a v) (brings sys r a v)
    brings_below entered is-r a fits v =
        part_rises states fronts cells suits fits_front fits_cell sys is 0 sys.equations.entry sys.equations.entry
        is.law.entry_fits is.law.entry_fits
        (reflexive states suits sys.equations is.state_order is.state_join is.law 0 sys.equations.entry
        is.law.entry_fits) v
    brings_below (row e) is-r a fits v =
        row_below e is-r (small_at sys e a)
        (small_at_fits states fronts cells suits fits_front fits_cell sys is e is-r a fits) v
    brings_below (flow e x) is-r a fits v =
        let k = kept_at sys (from sys e) x in
        let there = kept_slot states fronts cells suits fits_front fits_cell sys is (from sys e) x
        (is.law.from_node e is-r.0) is-r.1 in
        passed_below (standing sys a (open_at e)) (carried_along other e x (standing sys a (slot_at k x)))
        (carried_along sys e x (standing sys a (slot_at k x)))
        (along_below e x (standing sys a (slot_at k x))
        (standing_fits states fronts cells suits fits_front fits_cell sys is a fits (slot_at k x) there))

    -- rows may be applied anywhere
    abbrev Anywhere : ℕ → V → Type 0
    Anywhere e s = Unit {0}

    abbrev System : Constraints S
    System = front_constraints sys

    abbrev System' : Constraints S
    System' = front_constraints other

    order : IsOrder (HasParts fronts.is_value cells.is_value) (IsStandingBelow fronts.leq cells.leq)
    order = standing_order fronts.is_value cells.is_value fronts.leq cells.leq is.front_order is.cell_order

    lawful : AreLawful (HasParts fronts.is_value cells.is_value) (IsStandingBelow fronts.leq cells.leq)
        (joined_standing fronts.joined cells.joined) FitsAt (Allows sys Anywhere) System
    lawful = are_lawful states fronts cells suits fits_front fits_cell sys is Anywhere

    lawful' : AreLawful (HasParts fronts.is_value cells.is_value) (IsStandingBelow fronts.leq cells.leq)
        (joined_standing fronts.joined cells.joined) FitsAt' (Allows other Anywhere) System'
    lawful' = are_lawful states fronts cells suits fits_front fits_cell other is' Anywhere

    module _ (allows allows' : ℕ → Assignment S → Type 0) where
      closed_below : (a : Assignment S) → IsClosed (standings fronts cells) FitsAt allows System a
          → IsClosed (standings fronts cells) FitsAt' allows' System' a
      closed_below a h = record {
        round = record { fits = h.round.fits; round = h.round.round };
        met = λ k lt j j-lt.
            let r = sys.numbers.rule k in
            transitive (standings fronts cells) FitsAt (Allows sys Anywhere) System order lawful (target System k j)
            (System'.gives k a j) (System.gives k a j) (a (target System k j))
            (lawful'.gives_fits k a j lt h.round.fits j-lt) (lawful.gives_fits k a j lt h.round.fits j-lt)
            (h.round.fits (target System k j) (lawful.target_within k j lt j-lt))
            (brings_below r (is.numbered.rule k lt) a h.round.fits
            (slice_index_or (targets_of sys r) j (front_at 0))) (h.met k lt j j-lt);
      }

      least_above : (start last : Assignment S) → IsLeast (standings fronts cells) FitsAt' allows' System' start
          → IsClosed (standings fronts cells) FitsAt allows System last
          → IsLeastAbove (standings fronts cells) FitsAt allows System start last
          → IsLeast (standings fronts cells) FitsAt allows System last
      least_above start last least closed above = record {
        closed = closed;
        below = λ b b-closed. above b b-closed (least.below b (closed_below b b-closed));
      }

-- ## What edges make of cells

module _ (around : Around) (store store' : Interferences) (is : IsStore store) (is' : IsStore store')
    (le : IsStoreBelow store store') where
  -- what the others left in a cell under a mutex, in the lesser store and in the greater one
  abbrev left : ℕ → ℕ → CellValues
  left m x = cond (around.is_shared x) (handed around.reader.task m x store) no_value

  abbrev left' : ℕ → ℕ → CellValues
  left' m x = cond (around.is_shared x) (handed around.reader.task m x store') no_value

  left_is : (m x : ℕ) → IsValues (left m x)
  left_is m x = cond_is (around.is_shared x) (handed around.reader.task m x store) no_value
      (handed_is around.reader.task m x store is.sync) none_is

  left_is' : (m x : ℕ) → IsValues (left' m x)
  left_is' m x = cond_is (around.is_shared x) (handed around.reader.task m x store') no_value
      (handed_is around.reader.task m x store' is'.sync) none_is

  left_below : (m x : ℕ) → IsValuesBelow (left m x) (left' m x)
  left_below m x =
      cond_same (around.is_shared x) (handed around.reader.task m x store) no_value
      (handed around.reader.task m x store') no_value (handed_rises around.reader.task m x store store' is is' le)
      (values_order.reflexive no_value none_is)

  taken_below : (m x : ℕ) (c : Cell) → IsCellForm c
      → IsCellUnder (taken around store m x c) (taken around store' m x c)
  taken_below m x c c-is =
      let there = values_join.value c.value (left' m x) c-is (left_is' m x) in
      let same = cells_order.reflexive c c-is in record {
        value = values_join.least c.value (left m x) (joined_values c.value (left' m x)) c-is (left_is m x) there
            (values_join.left c.value (left' m x) c-is (left_is' m x))
            (values_order.transitive (left m x) (left' m x) (joined_values c.value (left' m x)) (left_is m x)
            (left_is' m x) there (left_below m x) (values_join.right c.value (left' m x) c-is (left_is' m x)));
        pending = same.pending;
        fresh = λ h. h;
        stored = λ h. h;
      }

  carried_below : (action : Action) (x : ℕ) (c : Cell) → IsCellForm c
      → IsCellUnder (carried_by around action store x c) (carried_by around action store' x c)
  unfolding carried_by
  carried_below skips x c c-is = cells_order.reflexive c c-is
  carried_below (gives target calculation) x c c-is = cells_order.reflexive c c-is
  carried_below (refines filter) x c c-is = cells_order.reflexive c c-is
  carried_below (loads spots target address) x c c-is = cells_order.reflexive c c-is
  carried_below (loads_any spots target address range) x c c-is = cells_order.reflexive c c-is
  carried_below (stores spots address source) x c c-is = cells_order.reflexive c c-is
  carried_below (clears cleared) x c c-is = cells_order.reflexive c c-is
  carried_below (locks m) x c c-is =
      let t = taken_below m x c c-is in
      record { value = t.value; pending = t.pending; fresh = λ h. h; stored = t.stored }
  carried_below (unlocks m) x c c-is = cells_order.reflexive (released m c) c-is
  carried_below yields x c c-is = cells_order.reflexive (aged c) c-is
  carried_below (probes m target true) x c c-is = cells_order.reflexive c c-is
  carried_below (probes m target false) x c c-is = taken_below m x c c-is

-- ## Along the edges of a body

led_below : (to : Option ℕ) (y z : Option State) → IsBelow IsStateUnder y z → IsBelow IsStateUnder (led to y) (led to z)
led_below None y z le = tt
led_below (Some n) y z le = le

module _ (b : Body) (store store' : Interferences) (is : IsStore store) (is' : IsStore store')
    (le : IsStoreBelow store store') where
  edge_below : (c : EdgeCopy) (s : State) → IsStateForm s
      → IsBelow IsStateUnder (after_along b store c s) (after_along b store' c s)
  edge_below c s s-is =
      let edge = edge_of b c in
      led_below c.to
      (after (around_along b c) (action_along b c) s store) (after (around_along b c) (action_along b c) s store')
      (after_rises (around_along b c) s s s-is s-is (states_order.reflexive s s-is) store store' is is' le
      (action_along b c) (edge_is b.laid b.task (tests_pointer b.pointers edge.op) c.answer edge.op))

-- ## The slots of a body

-- what may stand at a variable, and assignments that are closed, the least one, and the least that is closed above
-- another
abbrev pub Fits : SlotSystemOf → ℕ → Stand → Type 0
Fits v = FitsVariable (sparse_of v) (FitsFront (body_of v.system)) (FitsCellAt (body_of v.system))

abbrev pub Closed : SlotSystemOf → Values → Type 0
Closed v a = IsClosed (standings fronts cells) (Fits v) (AllowsSlots v) (front_constraints (sparse_of v)) a

abbrev pub Least : SlotSystemOf → Values → Type 0
Least v a = IsLeast (standings fronts cells) (Fits v) (AllowsSlots v) (front_constraints (sparse_of v)) a

abbrev pub Above : SlotSystemOf → Values → Values → Type 0
Above v start last =
    IsLeastAbove (standings fronts cells) (Fits v) (AllowsSlots v) (front_constraints (sparse_of v)) start last

module _ (w : SystemOf) (before : Interferences) (entry : State) (s : Slots) where
  -- the slots of a body over the store before, and over its own
  abbrev pub earlier : SlotSystemOf
  earlier = record { system = record w { store = before }; entry = entry; slots = s }

  abbrev pub later : SlotSystemOf
  later = record { system = w; entry = entry; slots = s }

  module _ (is : IsSlotSystem earlier) (is' : IsSlotSystem later) (le : IsStoreBelow before w.store) where
    abbrev b : Body
    b = body_of w

    abbrev after_before : ℕ → State → Option State
    after_before e t = after_along b before (copy_at b e) t

    store_is : IsStore before
    store_is = (let k = is.system in let f = k.store in f.form)

    store_is' : IsStore w.store
    store_is' = (let k = is'.system in let f = k.store in f.form)

    less : BringsLess states fronts cells (FitsBody b) (FitsFront b) (FitsCellAt b) (sparse_of later) after_before
        (carry_along b before)
    less = record {
      leads = λ e t lt fits. edge_below b before w.store store_is store_is' le (copy_at b e) t fits.form;
      makes = λ e x c fits.
          carried_below (around_along b (copy_at b e)) before w.store store_is store_is' le
          (action_along b (copy_at b e)) x c fits.form;
    }

    pub closed_before : (a : Values) → Closed later a → Closed earlier a
    closed_before a h =
        closed_below states fronts cells (FitsBody b) (FitsFront b) (FitsCellAt b) (sparse_of later) after_before
        (carry_along b before) (slots_are_sparse later is') (slots_are_sparse earlier is) less (AllowsSlots later)
        (AllowsSlots earlier) a h

    pub least_from : (start last : Values) → Least earlier start → Closed later last → Above later start last
        → Least later last
    least_from start last least closed above =
        least_above states fronts cells (FitsBody b) (FitsFront b) (FitsCellAt b) (sparse_of later) after_before
        (carry_along b before) (slots_are_sparse later is') (slots_are_sparse earlier is) less (AllowsSlots later)
        (AllowsSlots earlier) start last least closed above
