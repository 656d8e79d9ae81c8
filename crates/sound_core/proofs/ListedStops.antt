-- Where a body is about to stop with an error, an edge of a context of the alarm leaves where it stands.
use Rattle.std.proofs.Common.{◌≡◌, ◌⊎◌, inl, inr, refl, sym, ap, subst, ◌∙◌, ℕ, zero, suc, ◌<◌, Bool, true, false, List}
use Rattle.std.proofs.Common.{[], ◌∷◌, length, get_or, Option, Some, arith}
use Rattle.std.proofs.lemmas.Bool.{false≢true}
use Rattle.sound_tables.specs.tm_cint.declared.Class.{Class}
use Rattle.sound_tables.specs.tm_cint.declared.Class.TheVariants as Classes
use Rattle.sound_tables.specs.tm_terms.declared.places.Place.{Place}
use Rattle.sound_tables.specs.tm_laid.Layouts.{LaidTree}
use Rattle.sound_tables.specs.concrete_values.declared.values.Value.{Value}
use Rattle.sound_tables.specs.concrete_values.declared.values.Answer.{Answer}
use Rattle.sound_tables.specs.concrete_values.declared.actions.Next.TheVariants as Acts
use Rattle.sound_tables.specs.concrete_steps.NextAction.{next}
use Rattle.sound_tables.specs.concrete_steps.Worlds.{World, standing, answers_of, holds, next_at}
use Rattle.sound_tables.specs.flow_graph.declared.operations.Operation.{Operation as GraphOperation}
use Rattle.sound_tables.specs.flow_graph.declared.operations.Operation.TheVariants as Op
use Rattle.sound_tables.specs.flow_graph.Operations.{Temps, used}
use Rattle.sound_tables.specs.flow_graph.Graphs.{Among}
use Rattle.sound_tables.specs.flow_graph.Runs.{Memory}
use Rattle.sound_tables.specs.flow_graph.Positions.{StandsAt}
use Rattle.sound_tables.specs.mutex_configs.Sets.{has, IsOfSixteen}
use Rattle.sound_tables.specs.transfer_rows.StateForms.{State, value_of, temp_value}
use Rattle.sound_tables.specs.transfer_rows.Covering.{AreIn, HasTemp}
use Rattle.sound_tables.specs.transfer_rows.Reports.{IsListed}
use Rattle.sound_tables.specs.program_reports.pointer_dom.Values.{IsValueIn}
use Rattle.sound_tables.specs.program_reports.table_covers.Solutions.{NodeTable}
use Rattle.sound_tables.specs.temporary_types.Sorts.{types_of}
use Rattle.sound_tables.specs.program_reports.state_fits.Kinds.{OfTypes}
use Rattle.sound_tables.specs.program_reports.state_fits.Fits.{FitsPlace}
use Rattle.sound_tables.specs.program_reports.Reports.{place_of, copy_in, operation_in}
use Rattle.sound_tables.specs.task_equations.Bodies.{edge_of, live_at, copy_at}
use Rattle.sound_tables.specs.task_equations.Equations.{action_along, around_along}
use Rattle.sound_tables.specs.program_equations.Programs.{ProgramBodies, body_at, IsProgram}
use Rattle.sound_tables.specs.tm_soundness.Shape.{Shape, Operation as Acting, Content as AContent, lock, unlock}
use Rattle.sound_tables.specs.tm_soundness.Tables.{Tables}
use Rattle.sound_tables.specs.tm_soundness.GraphWorlds.{Situation}
use Rattle.sound_tables.specs.tm_soundness.Shaped.{IsShaped}
use Rattle.sound_tables.specs.tm_soundness.Covers.{IsSolution}
use Rattle.sound_tables.specs.tm_soundness.Worlds.{Source, World as AWorld, Action, a_lock, a_unlock, a_spins}
use Rattle.sound_tables.specs.tm_soundness.Worlds.{Leaves, IsLowered}
use Rattle.sound_tables.specs.tm_soundness.Known.{IsKnown}
use Rattle.sound_tables.specs.tm_soundness.Numbered.{TaskOf}
use Rattle.sound_tables.specs.program_shape.Shape.{Parts, Node, Copy, shape_of, from_of}
use Rattle.sound_tables.specs.Programs.{part_of}
use Rattle.sound_tables.specs.Premises.{IsGraphOf}
use Rattle.sound_tables.specs.Memberships.{around_copy, action_copy, state_at, tables_with, scalar_as, scalars_as}
use Rattle.sound_tables.proofs.Alarms.{place_same, IsAt, is_at}
use Rattle.sound_tables.proofs.Arriving.{live_has}
use Rattle.sound_tables.proofs.SetsAfter.{is_lock}
use Rattle.sound_addresses.specs.sound_runs.Sources.{source_of, action_of, place_of_next}
use Rattle.sound_addresses.proofs.low.sound_runs.Halted.{HaltsBy, by_fault, by_lock, by_unlock}
use Rattle.sound_addresses.proofs.low.sound_runs.Moved.{next_is}
use Rattle.alarm_contexts.specs.Contexts.{IsContext}
use Rattle.sound_core.proofs.NextEdges.{here, IsNextEdge, next_edge, next_failure}

among_at : (xs : List ℕ) (role : ℕ) → role < length xs → Among (get_or xs role 0) xs
among_at [] role lt = absurd (omega (arith, lt))
among_at (x ∷ xs) zero lt = inl refl
among_at (x ∷ xs) (suc role) lt = inr (among_at xs role (omega (arith, lt)))

some_same : (a b : State) → (let x : Option State = Some a in x) ≡ Some b → a ≡ b
some_same a b e = cc

lock_small : (m : ℕ) (q : Place) → IsOfSixteen (Op.Lock m q) → m < 16
unfolding IsOfSixteen
lock_small m q h = h

-- each temporary that the operation uses has a value of the state's
abbrev UsesWithin : GraphOperation → State → Temps → Type 0
UsesWithin op s f = (role : ℕ) → role < length (used op)
    → IsValueIn (value_of s (get_or (used op) role 0)) (scalar_as (f (get_or (used op) role 0)))

-- ## What is found

module _ (laid : LaidTree) (p : ProgramBodies) (tables : ℕ → NodeTable State) (w : World) where
  -- the copy of an edge that the body stands before is a context of the alarm, and the values there are in its state
  pub record IsListedStop (t : ℕ) (class : Class) (place : Place) : Type 0 where
    pub copy : ℕ
    pub state : State
    pub context : IsContext p tables place class t copy state
    pub memory : Memory
    pub stands : (let b = body_at p t in
        StandsAt p.laid b.edges (next laid t) (answers_of w t) (edge_of b (copy_in p t copy)).from memory)
    pub operands : UsesWithin (operation_in p t copy) state memory.temps

-- ## Bodies that run together

module _ (laid : LaidTree) (p : ProgramBodies) (is : IsProgram p) (n : ℕ) (number : TaskOf n → ℕ) (rank : ℕ → ℕ)
    (within : (i : TaskOf n) → number i < length p.bodies) (graphs : (i : TaskOf n) → IsGraphOf p (number i))
    (tables : ℕ → NodeTable State) (weak sync : TaskOf n → ℕ → ℕ → Value → Type 0) where
  abbrev y : Parts
  y = part_of p n number rank

  abbrev S : Shape
  S = shape_of y

  abbrev N : Source S
  N = source_of y (next laid)

  abbrev T : Tables S
  T = tables_with p n number rank tables weak sync

  module _ (w : World) (memory : ℕ → AContent Value) (temps : TaskOf n → Temps) (C : AWorld S N)
      (k : IsKnown S T N memory temps C) (shape : IsShaped S) (sol : IsSolution S T) (lowered : IsLowered S N temps)
      (answers : (i : TaskOf n) → C.answers i ≡ answers_of w (number i))
      (holding : (i : TaskOf n) (m : ℕ) → m < 16 → has (C.held i) m ≡ holds m (standing w (number i)))
      (fits : (q : Node y) (s : State) → state_at p n number rank tables q ≡ Some s
      → FitsPlace p.laid (number q.task) (OfTypes p.laid (types_of (is.sorts (number q.task))))
      (live_at (body_at p (number q.task)) q.place) s) where
    abbrev z : TaskOf n → Situation S
    z i = here S T N memory temps C k i

    abbrev Next_edge : TaskOf n → Copy y → Type 0
    Next_edge i e = IsNextEdge S T N memory temps C k i e

    next_now : (i : TaskOf n) → next laid (number i) (C.answers i) ≡ next_at laid w (number i)
    next_now i = ap (next laid (number i)) (answers i) ∙ sym (next_is laid w (number i))

    abbrev StandsAs : TaskOf n → List Answer → ℕ → Memory → Type 0
    StandsAs i a l m = (let b = body_at p (number i) in StandsAt p.laid b.edges (next laid (number i)) a l m)

    -- where the body stands, with the temporaries of its situation
    record IsStanding (i : TaskOf n) : Type 0 where
      now : Memory
      stands : StandsAs i (answers_of w (number i)) (z i).node.place now
      same : (z i).temps ≡ now.temps

    standing_at : (i : TaskOf n) → IsStanding i
    standing_at i =
        let s = k.stands i in
        record {
          now = s.memory;
          stands = subst (λ a. StandsAs i a (z i).node.place s.memory) (answers i)
              (subst (λ l. StandsAs i (C.answers i) l s.memory) (sym (ap (λ (q : Node y). q.place) s.node)) s.stands);
          same = s.temps;
        }

    -- a copy that leaves where the body stands
    module _ (i : TaskOf n) (e : Copy y) (g : Next_edge i e) (s : State)
        (at : state_at p n number rank tables (from_of y e) ≡ Some s) where
      inside_at : AreIn s (scalars_as (z i).temps)
      inside_at =
          let h = g.inside in subst (λ r. AreIn r (scalars_as (z i).temps)) (some_same h.state s (sym h.is ∙ at)) h.holds.0

      uses_within : UsesWithin e.edge.op s (z i).temps
      uses_within role lt =
          let u = get_or (used e.edge.op) role 0 in
          let live = live_at (body_at p (number e.actor)) e.edge.from in
          let t : HasTemp s u = live_has p.laid (number e.actor) (types_of (is.sorts (number e.actor))) live s
          (fits (from_of y e) s at) u ((graphs e.actor).uses e.edge u e.among (among_at (used e.edge.op) role lt)) in
          subst (λ o. IsValueIn (temp_value o) (scalar_as ((z i).temps u))) (sym t.stands)
          (inside_at.in_value u t.entry t.stands)

    stop_at : (i : TaskOf n) (class : Class) (place : Place) (e : Copy y) → Next_edge i e → T.listed e class
        → place_of_next (next_at laid w (number i)) ≡ Some place → IsListedStop laid p tables w (number i) class place
    stop_at i class place e g l placed =
        let b = body_at p (number e.actor) in
        let c : IsAt p is n number rank within graphs tables e l.state =
        is_at p is n number rank within graphs tables e l.state l.is in
        let h = standing_at i in
        let from : e.edge.from ≡ (z i).node.place = ap (λ (q : Node y). q.place) g.from in
        let stands : StandsAs e.actor (answers_of w (number e.actor)) e.edge.from h.now =
        subst (λ v. StandsAs e.actor (answers_of w (number e.actor)) v h.now) (sym from)
        (subst (λ j. StandsAs j (answers_of w (number j)) (z i).node.place h.now) (sym g.actor) h.stands) in
        subst (λ j. IsListedStop laid p tables w (number j) class place) g.actor
        (record {
          copy = c.copy;
          state = l.state;
          context = record {
            reached = c.reached;
            listed = subst (λ a. IsListed a (action_along b (copy_at b c.copy)) l.state class) (sym c.around)
                (subst (λ a. IsListed (around_copy p n number rank tables e) a l.state class) (sym c.action) l.holds);
            placed = ap place_of c.operation ∙ place_same e.edge.op ∙ g.place ∙ ap place_of_next (next_now i) ∙ placed;
          };
          memory = h.now;
          stands = subst (λ v. StandsAs e.actor (answers_of w (number e.actor)) v h.now)
              (sym (ap (λ d. d.from) c.edge)) stands;
          operands = subst (λ op. UsesWithin op l.state h.now.temps) (sym c.operation)
              (subst (λ f. UsesWithin e.edge.op l.state f) h.same (uses_within i e g l.state l.is));
        })

    lock_acts : (a : Action S ℕ) (m : ℕ) → a ≡ a_lock m → a ≡ a_spins → ⊥
    lock_acts a m e f = cc

    unlock_acts : (a : Action S ℕ) (m : ℕ) → a ≡ a_unlock m → a ≡ a_spins → ⊥
    unlock_acts a m e f = cc

    edge_at : (i : TaskOf n) (o : Acting ℕ ℕ) (l : Leaves S N i (z i).node o)
        → (action_of y (next laid (number i) (C.answers i)) ≡ a_spins → ⊥) → Next_edge i l.edge
    edge_at i o l acts = next_edge S T N memory temps C k shape sol lowered i o l acts

    pub stop_listed : (i : TaskOf n) (class : Class) (place : Place)
        → HaltsBy (next_at laid w (number i)) (standing w (number i)) class place
        → IsListedStop laid p tables w (number i) class place
    stop_listed i class place (by_fault at) =
        let r = next_failure S T N memory temps C k shape sol lowered i class (ap (action_of y) (next_now i ∙ at)) in
        stop_at i class place r.0 r.1.next r.1.listed (ap place_of_next at)
    stop_listed i class place (by_lock m at is_class mine) =
        let now = ap (action_of y) (next_now i ∙ at) in
        let l = (lowered.at_lock i (C.answers i) (z i).node (z i).temps m (k.stands i) now).0 in
        let e : Copy y = l.edge in
        let g = edge_at i (lock m) l (lock_acts (action_of y (next laid (number i) (C.answers i))) m now) in
        let op = is_lock e.edge.op e.answer m l.operation in
        let small = lock_small m op.0 (subst IsOfSixteen op.1 ((graphs e.actor).mutexes e.edge e.among)) in
        let held = (g.held m).1 (record { small = small; is = holding i m small ∙ mine }) in
        subst (λ c. IsListedStop laid p tables w (number i) c place) (sym is_class)
        (stop_at i Classes.Lock place e g (sol.listed_lock e (z i).temps m l.operation g.inside held)
        (ap place_of_next at))
    stop_listed i class place (by_unlock m at is_class not) =
        let now = ap (action_of y) (next_now i ∙ at) in
        let l = (lowered.at_unlock i (C.answers i) (z i).node (z i).temps m (k.stands i) now).0 in
        let e : Copy y = l.edge in
        let g = edge_at i (unlock m) l (unlock_acts (action_of y (next laid (number i) (C.answers i))) m now) in
        subst (λ c. IsListedStop laid p tables w (number i) c place) (sym is_class)
        (stop_at i Classes.Lock place e g
        (sol.listed_unlock e (z i).temps m l.operation g.inside
        (λ h. let own = (g.held m).0 h in false≢true (sym not ∙ sym (holding i m own.small) ∙ own.is)))
        (ap place_of_next at))
