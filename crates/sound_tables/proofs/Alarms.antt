-- What the tables list is an alarm of the report.
use Rattle.std.specs.Prelude.{◌≡◌, ◌⊎◌, ℕ, suc, ◌<◌, eqb, Bool, true, List, [], ◌∷◌, length}
use Rattle.std.specs.Prelude.{get_or}
use Rattle.std.specs.Prelude.{Contains, Option, Some, None}
use Rattle.std.specs.List.{list_any}
use Rattle.std.proofs.Common.{refl, sym, ap, subst, ◌∙◌, inl, inr, ⊎_elim, arith}
use Rattle.std.proofs.lemmas.Bool.{or_cases, eqb-true, false≢true}
use Rattle.program_shape.specs.tm_cint.declared.Class.{Class}
use Rattle.program_shape.specs.tm_cint.declared.Class.TheVariants.{Race}
use Rattle.program_shape.specs.tm_terms.declared.places.Place.{Place}
use Rattle.program_shape.specs.flow_graph.declared.operations.Operation.{Operation as GraphOperation}
use Rattle.program_shape.specs.flow_graph.declared.operations.Operation.TheVariants as Op
use Rattle.program_shape.specs.mutex_configs.declared.nodes.ConfiguredNode.{ConfiguredNode}
use Rattle.program_reports.specs.transfer_rows.StateForms.{State}
use Rattle.program_reports.specs.transfer_rows.Accesses.{is_among}
use Rattle.program_reports.specs.transfer_rows.Reports.{targets_of, IsListed}
use Rattle.program_reports.specs.interfere_set.Stores.{Interferences, are_apart}
use Rattle.program_reports.specs.cell_env.Cells.{IsWithin}
use Rattle.program_reports.specs.table_covers.Solutions.{NodeTable}
use Rattle.program_reports.specs.state_fits.laws.FileSets.{in_sixteen}
use Rattle.program_reports.specs.task_equations.Bodies.{edge_of, node_at, copy_at}
use Rattle.program_reports.specs.task_equations.Equations.{action_along, around_along}
use Rattle.program_reports.specs.program_equations.Programs.{ProgramBodies, body_at, IsProgram}
use Rattle.program_reports.specs.Reports.{place_of, IsWriting, operation_in, left_in, IsReachedIn, IsAccess, AreRacing}
use Rattle.program_reports.specs.Reports.{IsAlarm, faulty, racing}
use Rattle.program_shape.specs.tm_soundness.Numbered.{TaskOf}
use Rattle.program_shape.specs.tm_soundness.Shape.{store}
use Rattle.program_shape.specs.tm_soundness.Reports.{IsRaceListed}
use Rattle.program_shape.specs.tm_soundness.Tables.{Tables}
use Rattle.program_shape.specs.Shape.{Copy, number_of, shape_of, place_at, operation_of}
use Rattle.sound_tables.specs.Programs.{part_of, parts_of}
use Rattle.sound_tables.specs.Premises.{IsGraphOf}
use Rattle.sound_tables.specs.Memberships.{found_at, number_at, left, around_copy, action_copy}
use Rattle.sound_tables.specs.Memberships.{tables_of}
use Rattle.sound_tables.proofs.Copies.{IsCopyNumber, copy_number, numbered}
use Rattle.sound_tables.proofs.Led.{around_is, action_is}
use Rattle.sound_tables.proofs.OperationKinds.{is_store}
use Rattle.sound_tables.proofs.Entries.{sets_apart}
use Rattle.sound_tables.proofs.Pairs.{number_below, number_same}

-- the place is the same by both definitions
pub place_same : (op : GraphOperation) → place_of op ≡ place_at op
unfolding place_of
place_same (Op.Un to operator of from place) = refl
place_same (Op.Bin to operator of left right place) = refl
place_same (Op.Index to from count cells by place) = refl
place_same (Op.Move to from cells minus by place) = refl
place_same (Op.Deref to from target path place) = refl
place_same (Op.Load to address scalar place) = refl
place_same (Op.LoadAny to address scalar place) = refl
place_same (Op.Store address value scalar into place) = refl
place_same (Op.Usable pointer place) = refl
place_same (Op.Lock mutex place) = refl
place_same (Op.Unlock mutex place) = refl
place_same (Op.Probe to mutex place) = refl
place_same op = refl

among_contains : (xs : List ℕ) (x : ℕ) → is_among xs x ≡ true → Contains xs x
among_contains [] x h = absurd (false≢true h)
among_contains (y ∷ ys) x h = by_case (among_contains ys x) (or_cases (eqb x y) (list_any (eqb x) ys) h)
  where
    by_case : (list_any (eqb x) ys ≡ true → Contains ys x)
        → (eqb x y ≡ true) ⊎ (list_any (eqb x) ys ≡ true) → Contains (y ∷ ys) x
    by_case rest (inl e) = (0, omega arith, sym (eqb-true x y e))
    by_case rest (inr k) =
        let c = rest k in (suc c.0, let lt = c.1 in omega (arith, lt), c.2)

-- ## The number of a copy

module _ (p : ProgramBodies) (is : IsProgram p) (n : ℕ) (number : TaskOf n → ℕ) (rank : ℕ → ℕ)
    (within : (i : TaskOf n) → number i < length p.bodies) (graphs : (i : TaskOf n) → IsGraphOf p (number i))
    (tables : ℕ → NodeTable State) where
  -- the copy with a number leaves a node that is reached, in the state of the tables
  pub record IsAt (e : Copy (part_of p n number rank)) (s : State) : Type 0 where
    pub copy : ℕ
    pub reached : IsReachedIn p tables (number e.actor) copy s
    pub around : (let b = body_at p (number e.actor) in
        around_along b (copy_at b copy) ≡ around_copy p n number rank tables e)
    pub action : (let b = body_at p (number e.actor) in
        action_along b (copy_at b copy) ≡ action_copy p n number rank tables e)
    pub edge : (let b = body_at p (number e.actor) in edge_of b (copy_at b copy)) ≡ e.edge
    pub operation : operation_in p (number e.actor) copy ≡ e.edge.op
    pub node : left_in p (number e.actor) copy ≡ left p n number rank tables e
    pub held : IsWithin e.held 65535

  found_some : (table : NodeTable State) (o : Option ℕ) (s : State) → found_at table o ≡ Some s
      → (m : ℕ) × (o ≡ Some m) × (table m ≡ Some s)
  found_some table None s h = absurd (cc)
  found_some table (Some m) s h = (m, refl, h)

  pub is_at : (e : Copy (part_of p n number rank)) (s : State)
      → found_at (tables (number e.actor)) (number_at p (number e.actor) (left p n number rank tables e)) ≡ Some s
      → IsAt e s
  is_at e s at =
      let i = e.actor in
      let t = number i in
      let b = body_at p t in
      let q = left p n number rank tables e in
      let here = found_some (tables t) (number_at p t q) s at in
      let known = numbered b.nodes q here.0 here.1 in
      let found = copy_number b (graphs i).copies q here.0 here.1 e.edge e.among refl e.answer e.answered in
      let k = found.0 in
      let num : IsCopyNumber b q here.0 e.edge e.answer k = found.1 in
      let body = (is.each t (within i)).body in
      record {
        copy = k;
        reached = record {
          body = within i;
          copy = num.within;
          state = ap (tables t) num.from ∙ here.2;
        };
        around = around_is p is t (within i) q here.0 e.edge e.answer k num;
        action = action_is p is t (within i) q here.0 e.edge e.answer k num;
        edge = num.edge;
        operation = ap (λ d. d.op) num.edge;
        node = ap (node_at b) num.from ∙ num.node;
        held = subst (λ (r : ConfiguredNode). IsWithin r.held 65535) num.node
            (let r = node_at b here.0 in in_sixteen b.laid r.held (body.held here.0 known.0));
      }

  -- a class that is listed is an alarm at the place of its edge
  pub listed_alarm : (e : Copy (part_of p n number rank)) (class : Class) (place : Place) (s : State)
      → found_at (tables (number e.actor)) (number_at p (number e.actor) (left p n number rank tables e)) ≡ Some s
      → IsListed (around_copy p n number rank tables e) (action_copy p n number rank tables e) s class
      → place_at e.edge.op ≡ Some place → IsAlarm p tables (record { place = place; class = class })
  listed_alarm e class place s at listed placed =
      let b = body_at p (number e.actor) in
      let k = is_at e s at in
      faulty (record {
        body = number e.actor;
        copy = k.copy;
        state = s;
        reached = k.reached;
        listed = subst (λ a. IsListed a (action_along b (copy_at b k.copy)) s class) (sym k.around)
            (subst (λ a. IsListed (around_copy p n number rank tables e) a s class) (sym k.action) listed);
        placed = ap place_of k.operation ∙ place_same e.edge.op ∙ placed;
      })

-- ## Races

writes_by : (op : GraphOperation) (answer : Bool) (a v : ℕ) → operation_of op answer ≡ store a v → IsWriting op
writes_by op answer a v h = let form = is_store op answer a v h in subst IsWriting (sym form.3) tt

module _ (p : ProgramBodies) (is : IsProgram p)
    (graphs : (i : TaskOf p.tasks) → IsGraphOf p (number_of p.tasks i)) (tables : ℕ → NodeTable State)
    (stored : Interferences) where
  abbrev rank : ℕ → ℕ
  rank t = get_or p.priorities t 0

  abbrev T : Tables (shape_of (parts_of p))
  T = tables_of p tables stored

  pub task_within : (i : TaskOf p.tasks) → number_of p.tasks i < length p.bodies
  task_within i = let a = number_below p.tasks i in let b = is.tasks in omega (arith, a, b)

  abbrev pub At : Copy (parts_of p) → State → Type 0
  At e s = IsAt p is p.tasks (number_of p.tasks) rank task_within graphs tables e s

  -- the node that the copy leaves has this state
  abbrev pub HasState : Copy (parts_of p) → State → Type 0
  HasState e s = found_at (tables (number_of p.tasks e.actor))
      (number_at p (number_of p.tasks e.actor) (left p p.tasks (number_of p.tasks) rank tables e)) ≡ Some s

  pub access_of : (e : Copy (parts_of p)) (x : ℕ) (s : State) (k : At e s)
      → is_among (targets_of (action_copy p p.tasks (number_of p.tasks) rank tables e) s) x ≡ true
      → IsAccess p tables (number_of p.tasks e.actor) k.copy x
  access_of e x s k among = record {
    task = number_below p.tasks e.actor;
    state = s;
    reached = k.reached;
    target = among_contains (targets_of (let b = body_at p (number_of p.tasks e.actor) in
        action_along b (copy_at b k.copy)) s) x
        (subst (λ a. is_among (targets_of a s) x ≡ true) (sym k.action) among);
  }

  writes_of : (e : Copy (parts_of p)) (s : State) (k : At e s) (a v : ℕ)
      → operation_of e.edge.op e.answer ≡ store a v
      → IsWriting (operation_in p (number_of p.tasks e.actor) k.copy)
  writes_of e s k a v h = subst IsWriting (sym k.operation) (writes_by e.edge.op e.answer a v h)

  abbrev pub at_copy : (e : Copy (parts_of p)) (s : State) (at : HasState e s) → At e s
  at_copy e s at = is_at p is p.tasks (number_of p.tasks) rank task_within graphs tables e s at

  -- the edges of a race that is listed have copies that race on the cell
  pub race_of : (e f : Copy (parts_of p)) (r : IsRaceListed (shape_of (parts_of p)) T e f)
      → AreRacing p tables (number_of p.tasks e.actor) (at_copy e r.common.1.state r.common.1.is).copy
      (number_of p.tasks f.actor) (at_copy f r.common.2.state r.common.2.is).copy
  race_of e f r =
      let x = r.common.0 in
      let one = r.common.1 in
      let two = r.common.2 in
      let ke = at_copy e one.state one.is in
      let kf = at_copy f two.state two.is in
      record {
        tasks = λ same. r.differ (number_same p.tasks e.actor f.actor same);
        cell = x;
        one = access_of e x one.state ke one.holds;
        other = access_of f x two.state kf two.holds;
        writes = ⊎_elim (λ h. inl (writes_of e one.state ke h.0 h.1 h.2))
            (λ h. inr (writes_of f two.state kf h.0 h.1 h.2)) r.some_store;
        apart = apart_at e.held f.held (λ a. a.held) ke.node kf.node (sets_apart e.held f.held ke.held r.apart);
        forth = λ less. apart_at e.held f.found (λ a. a.found) ke.node kf.node
            (sets_apart e.held f.found ke.held (r.one_lower less));
        back = λ less. apart_at f.held e.found (λ a. a.found) kf.node ke.node
            (sets_apart f.held e.found kf.held (r.two_lower less));
      }
    where
      apart_at : (l h : ℕ) (part : ConfiguredNode → ℕ) {q q' r r' : ConfiguredNode} → q ≡ q' → r ≡ r'
          → are_apart q'.held (part r') ≡ true → are_apart q.held (part r) ≡ true
      apart_at l h part {q} {q'} {r} {r'} e f k =
          ap (λ (z : ConfiguredNode). are_apart z.held (part r)) e
          ∙ ap (λ (z : ConfiguredNode). are_apart q'.held (part z)) f ∙ k

  -- they race on the cell at which it is listed
  pub race_at_cell : (e f : Copy (parts_of p)) (r : IsRaceListed (shape_of (parts_of p)) T e f)
      → (let h = race_of e f r in h.cell) ≡ r.common.0
  unfolding race_of
  race_at_cell e f r = refl

  -- such a race is an alarm at the place of either edge
  pub race_alarm : (e f : Copy (parts_of p)) → IsRaceListed (shape_of (parts_of p)) T e f → (place : Place)
      → place_at e.edge.op ≡ Some place → IsAlarm p tables (record { place = place; class = Race })
  race_alarm e f r place placed =
      let one = r.common.1 in
      let two = r.common.2 in
      let ke = at_copy e one.state one.is in
      let kf = at_copy f two.state two.is in
      racing (record {
        body = number_of p.tasks e.actor;
        copy = ke.copy;
        other_body = number_of p.tasks f.actor;
        other_copy = kf.copy;
        racing = race_of e f r;
        placed = ap place_of ke.operation ∙ place_same e.edge.op ∙ placed;
      })
