-- The entries of the tasks and of the initial section fit, and rise with the table of the initial section.
use Rattle.std.specs.Prelude.{◌≡◌, ℕ, zero, suc, ◌<◌, ◌≤◌, ◌==◌, nat_lt, Bool, true, false, cond, List, [], length}
use Rattle.std.specs.Prelude.{Option, Some, None, IfSome, refl}
use Rattle.std.proofs.Common.{sym, ap, subst, ◌∙◌, arith}
use Rattle.std.proofs.lemmas.Bool.{eqb-true}
use Rattle.region_cells.specs.tm_lattice.Tables.{IsBelow}
use Rattle.region_cells.specs.tm_laid.Layouts.{LaidTree, abstract_at, cell_at}
use Rattle.edge_filters.specs.pointer_dom.Values.{Values, joined_values}
use Rattle.edge_filters.specs.transfer_rows.StateForms.{State, own_of, IsStateUnder}
use Rattle.edge_filters.specs.edge_actions.Layouts.{is_shared_cell}
use Rattle.edge_filters.proofs.low.edge_actions.Lists.{lt_from}
use Rattle.task_equations.specs.typed_values.laws.TypeLaws.{none_of_type, joined_of_type}
use Rattle.task_equations.specs.table_covers.Solutions.{NodeTable, at}
use Rattle.task_equations.specs.state_fits.Fits.{FitsPlace}
use Rattle.task_equations.specs.temporary_extents.Extents.{extents_in}
use Rattle.task_equations.specs.state_fits.Kinds.{InExtents}
use Rattle.task_equations.specs.state_fits.laws.PlacesFit.{states_order}
use Rattle.task_equations.specs.Bodies.{Body, node_at, live_at}
use Rattle.program_equations.specs.Programs.{ProgramBodies, body_at, HasSection, IsProgram}
use Rattle.program_equations.specs.Entries.{initial_at, initial_below, initial_of, entry_state, first_state, ended}
use Rattle.program_equations.specs.Entries.{later_state}
use Rattle.program_equations.specs.Systems.{FitsBody, entry_after, task_entry, IsSection, IsSectionBelow}
use Rattle.program_equations.specs.laws.EntryStates.{IsTyped, entry_is, entry_fits}
use Rattle.program_equations.specs.laws.Endings.{IsEnding, place_ends, end_is, end_rises, end_agrees, later_fits}
use Rattle.program_equations.specs.laws.Endings.{later_rises}
use Rattle.program_equations.specs.laws.Fitting.{laid_is}

-- what holds of each state holds of one that may be there
some_are : {P Q : State → Type 0} (a : Option State) → ((s : State) → P s → Q s) → IfSome a P → IfSome a Q
some_are None f h = tt
some_are (Some s) f h = f s h

module _ (p : ProgramBodies) (is : IsProgram p) where
  -- ## Before anything has run

  initial_by : (n x : ℕ) → n < length p.laid.initial → IsTyped p.laid x (initial_below p.laid n x) → (b : Bool)
      → (let c = cell_at p.laid n in (c.abstract_cell == x) ≡ b) → IsTyped p.laid x
      (cond b (joined_values (initial_below p.laid n x) (initial_at p.laid n)) (initial_below p.laid n x))
  initial_by n x lt rest true same =
      let a = abstract_at p.laid x in
      let c = cell_at p.laid n in
      joined_of_type p.laid a.scalar (initial_below p.laid n x) (initial_at p.laid n) rest
      (subst (λ z. IsTyped p.laid z (initial_at p.laid n)) (eqb-true c.abstract_cell x same) (is.initial n lt))
  initial_by n x lt rest false other = rest

  initial_typed : (n x : ℕ) → n ≤ length p.laid.initial → IsTyped p.laid x (initial_below p.laid n x)
  initial_typed zero x le = let a = abstract_at p.laid x in none_of_type p.laid a.scalar
  initial_typed (suc n) x le =
      let c = cell_at p.laid n in
      initial_by n x (omega arith) (initial_typed n x (omega arith)) (c.abstract_cell == x) refl

  -- what cells of static storage hold before the program runs is of their types
  pub initial_is : (x : ℕ) → IsTyped p.laid x (initial_of p.laid x)
  initial_is x = initial_typed (length p.laid.initial) x (omega arith)

  -- ## At the entry of a body

  module _ (t : ℕ) (lt : t < length p.bodies) where
    abbrev body : Body
    body = body_at p t

    -- nothing is live at the entry
    starts : (let q = node_at body 0 in live_at body q.place ≡ [])
    starts = ap (live_at body) (is.each t lt).entry ∙ (is.each t lt).begins

    -- what temporaries of the body may hold
    abbrev Holds : LaidTree → ℕ → Values → Type 0
    Holds laid = InExtents laid (extents_in body.edges)

    pub fits_entry : (s : State) → FitsPlace p.laid t (Holds p.laid) [] s → FitsBody (body_at p t) 0 s
    fits_entry s fits =
        let q = node_at body 0 in
        subst (λ l. FitsPlace l body.task (Holds l) (live_at body q.place) s) (sym (laid_is p is t lt))
        (subst (λ k. FitsPlace p.laid k (Holds p.laid) (live_at body q.place) s) (sym (is.each t lt).numbered.number)
        (subst (λ live. FitsPlace p.laid t (Holds p.laid) live s) (sym starts) fits))

    -- a state at the entry fits where cells of static storage have values of their types
    pub given_fits : (shared : ℕ → Values)
        → ((x : ℕ) → is_shared_cell p.laid x ≡ true → IsTyped p.laid x (shared x))
        → FitsBody (body_at p t) 0 (entry_state p.laid t shared)
    given_fits shared typed =
        fits_entry (entry_state p.laid t shared) (entry_fits p.laid t shared typed (Holds p.laid))

    pub first_fits : FitsBody (body_at p t) 0 (first_state p.laid t)
    first_fits = given_fits (initial_of p.laid) (λ x shown. initial_is x)

    -- the own values of a state that fits a node of the body are of the types of their cells
    pub node_ends : (n : ℕ) (a : Option State) → IfSome a (FitsBody (body_at p t) n) → IfSome a (IsEnding p.laid)
    node_ends n a h = some_are a (λ s fits.
        subst (λ l. IsEnding l s) (laid_is p is t lt)
        (let q = node_at body n in place_ends body.laid body.task (Holds body.laid) (live_at body q.place) s fits)) h

    -- so are those of the state in which it ends
    pub ended_ends : (table : NodeTable State)
        → ((n : ℕ) → n < (let b = body_at p t in length b.nodes) → IfSome (table n) (FitsBody (body_at p t) n))
        → IfSome (ended (body_at p t) table) (IsEnding p.laid)
    ended_ends table fits =
        end_is p.laid body.edges body.nodes table (λ n within. node_ends n (table n) (fits n within))

    -- a later body begins in a state that fits
    pub begins_later : (a : Option State) → IfSome a (IsEnding p.laid)
        → IfSome (later_state p.laid t a) (FitsBody (body_at p t) 0)
    begins_later None h = tt
    begins_later (Some s) h = fits_entry (entry_state p.laid t (own_of s))
        (later_fits p.laid t (Holds p.laid) (Some s) h)

  -- ## After the initial section

  module _ (section : List (Option State)) (solves : IsSection p section) where
    section_ends : HasSection p → IfSome (ended (body_at p p.tasks) (at section)) (IsEnding p.laid)
    section_ends has = ended_ends p.tasks has (at section) (solves has).fits

    entry_by : (t : ℕ) → t < length p.bodies → (has : Bool) → nat_lt p.tasks (length p.bodies) ≡ has
        → IfSome (entry_after has p section t) (FitsBody (body_at p t) 0)
    entry_by t lt true e =
        begins_later t lt (ended (body_at p p.tasks) (at section))
        (section_ends (lt_from p.tasks (length p.bodies) e))
    entry_by t lt false e = first_fits t lt

    -- the entry of each task after a solution of the initial section fits
    pub task_entry_fits : (t : ℕ) → t < length p.bodies → IfSome (task_entry p section t) (FitsBody (body_at p t) 0)
    task_entry_fits t lt = entry_by t lt (nat_lt p.tasks (length p.bodies)) refl

  module _ (one other : List (Option State)) (one-solves : IsSection p one) (other-solves : IsSection p other)
      (below : IsSectionBelow p one other) (t : ℕ) where
    rises_by : (has : Bool) → nat_lt p.tasks (length p.bodies) ≡ has
        → IsBelow IsStateUnder (entry_after has p one t) (entry_after has p other t)
    rises_by true e =
        let has = lt_from p.tasks (length p.bodies) e in
        let b = body_at p p.tasks in
        later_rises p.laid t (ended b (at one)) (ended b (at other))
        (section_ends other other-solves has)
        (end_rises p.laid b.edges b.nodes (at one) (at other)
        (λ n within. node_ends p.tasks has n (at one n) ((one-solves has).fits n within))
        (λ n within. node_ends p.tasks has n (at other n) ((other-solves has).fits n within)) (below has))
    rises_by false e =
        states_order.reflexive (first_state p.laid t) (entry_is p.laid t (initial_of p.laid) (λ x shown. initial_is x))

    -- more of the initial section gives more at the entry of each task
    pub task_entry_rises : IsBelow IsStateUnder (task_entry p one t) (task_entry p other t)
    task_entry_rises = rises_by (nat_lt p.tasks (length p.bodies)) refl

  -- tables of the initial section that agree give the same entries
  pub task_entry_agrees : (one other : List (Option State))
      → (HasSection p → (n : ℕ) → n < (let b = body_at p p.tasks in length b.nodes) → at one n ≡ at other n)
      → (t : ℕ) → task_entry p one t ≡ task_entry p other t
  task_entry_agrees one other same t = by_has (nat_lt p.tasks (length p.bodies)) refl
    where
      by_has : (has : Bool) → nat_lt p.tasks (length p.bodies) ≡ has
          → entry_after has p one t ≡ entry_after has p other t
      by_has true e =
          let b = body_at p p.tasks in
          ap (later_state p.laid t) (end_agrees p.laid b.edges b.nodes (at one) (at other)
          (same (lt_from p.tasks (length p.bodies) e)))
      by_has false e = refl
