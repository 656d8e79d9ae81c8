-- The least assignment of a body's constraints of fronts and slots, where each was allowed and the states that it makes
-- are traced, is the least solution of the body's equations.
use Rattle.std.specs.Prelude.{◌≡◌, ℕ, ◌<◌, Bool, true, false, cond, List, length, get_or, Option, Some, None, IfSome}
use Rattle.std.specs.Prelude.{is_some, refl}
use Rattle.std.proofs.Common.{sym, ap, subst, ◌∙◌}
use Rattle.std.proofs.lemmas.Bool.{false≢true}
use Rattle.std.specs.FinMap.{get}
use Rattle.sparse_bodies.specs.task_equations.table_covers.tm_lattice.Tables.{Table}
use Rattle.sparse_bodies.specs.task_equations.table_covers.Solutions.{NodeTable, IsLeastSolution}
use Rattle.sparse_bodies.specs.task_equations.table_covers.Systems.{IsLawfulSystem}
use Rattle.sparse_bodies.specs.task_equations.temporary_types.Sorts.{Sort}
use Rattle.sparse_bodies.specs.task_equations.state_fits.interfere_set.Stores.{Interferences}
use Rattle.sparse_bodies.specs.task_equations.state_fits.transfer_rows.StateForms.{Temp, Cell, State}
use Rattle.sparse_bodies.specs.task_equations.state_fits.Fits.{FitsStore, FitsCell}
use Rattle.sparse_bodies.specs.task_equations.state_fits.laws.PlacesFit.{states_order, states_join}
use Rattle.sparse_bodies.specs.task_equations.Bodies.{Body, copy_at}
use Rattle.sparse_bodies.specs.task_equations.Equations.{action_along, around_along, cells_at, equations_of}
use Rattle.sparse_bodies.specs.task_equations.Premises.{IsBody, FitsBody}
use Rattle.sparse_bodies.specs.task_equations.laws.Lawful.{equations_are_lawful}
use Rattle.sparse_bodies.specs.sparse_tables.Fronts.{IsStateAt, IsStandingAt, IsExpanded}
use Rattle.sparse_bodies.specs.laws.BodyLeast as body_rows
use Rattle.sparse_bodies.specs.Carries.{carry_along}
use Rattle.sparse_rows.specs.Checks.{AreChecked}
use Rattle.sparse_rows.specs.StateParts.{states, state_parts}
use Rattle.sparse_rows.specs.Traces.{IsTraced}
use Rattle.sparse_rows.specs.laws.Bodies as bodies
use Rattle.sparse_rows.specs.laws.Checked.{checked_by_front}
use Rattle.front_constraints.specs.least_assignments.Constraints.{Assignment}
use Rattle.front_constraints.specs.least_assignments.Solutions.{IsLeast, AreAllowed}
use Rattle.front_constraints.specs.declared.standings.Standing.{Standing}
use Rattle.front_constraints.specs.Standings.{standings, cell_in}
use Rattle.front_constraints.specs.Systems.{SparseSystem, edges, from, nodes, kept_at, is_looked, slot_at, row}
use Rattle.front_constraints.specs.Rules.{front_constraints, FitsVariable, Allows, AllowsRule, fronts_of, standing, seen}
use Rattle.front_constraints.specs.Rules.{seen_at, is_ready, small, small_at}
use Rattle.front_constraints.specs.laws.Lawful.{all_members}
use Rattle.front_constraints.specs.laws.Solved.{least_assignment_solves}
use Rattle.body_fronts.specs.FrontForms.{fronts, cells, FitsFront, FitsCellAt, is_seen}
use Rattle.body_fronts.specs.BodySystems.{Chosen, system_of, table_with}
use Rattle.body_fronts.specs.Choices.{IsChosen, HasTracedCopies, ChecksEdge}
use Rattle.body_fronts.specs.laws.Local.{bodies_are_local}
use Rattle.body_fronts.specs.laws.Made.{first_true, seen_so}
use Rattle.body_fronts.specs.laws.SparseBody.{body_is_sparse}

cond_is : {A : Type 0} (t : Bool) (u v : A) → t ≡ true → cond t u v ≡ u
cond_is true u v h = refl
cond_is false u v h = absurd (false≢true h)

module _ (b : Body) (sorts : List Sort) (is : IsBody b sorts) (tasks : ℕ) (store : Interferences)
    (store_fits : FitsStore b.laid tasks store) (entry : Option State) (entry_fits : IfSome entry (FitsBody b 0))
    (chosen : Chosen) (chosen_is : IsChosen b entry store chosen) (copies : ℕ → ℕ → Bool) (fresh : ℕ → Bool)
    (pending : ℕ → ℕ) where
  abbrev sys : SparseSystem State (Table Temp) Cell
  sys = system_of b entry store chosen

  abbrev law : IsLawfulSystem states.is_value states.leq states.joined (FitsBody b) (equations_of b entry store)
  law = equations_are_lawful b sorts is tasks store store_fits entry entry_fits

  abbrev Traced : State → Type 0
  Traced s = IsTraced copies fresh pending s

  abbrev Checks : ℕ → State → Type 0
  Checks = ChecksEdge b store chosen copies fresh pending

  abbrev Keeps : ℕ → Table Temp → Type 0
  Keeps = HasTracedCopies copies fresh pending

  module _ (a : Assignment (Standing (Table Temp) Cell))
      (allowed : AreAllowed (standings fronts cells) (FitsVariable sys (FitsFront b) (FitsCellAt b)) (Allows sys Checks)
      (front_constraints sys) a)
      (table : NodeTable State)
      (expanded : IsExpanded states (FitsBody b) (equations_of b entry store) (state_parts (carry_along b store))
      chosen.place (is_seen b) (fronts_of sys a) table) where
    abbrev StandsAt : ℕ → State → Type 0
    StandsAt n d = IsStateAt states (FitsBody b) (equations_of b entry store) (state_parts (carry_along b store))
        chosen.place (is_seen b) (fronts_of sys a) n d

    some_at : (x : ℕ) (y : Option Cell) → is_seen b x ≡ true → FitsCell b.laid b.task x y → is_some y ≡ true
    some_at x None seen h = absurd (h (seen_so b x seen))
    some_at x (Some c) seen h = refl

    -- something stands at each cell at which an edge may look
    looked_there : (e : ℕ) → e < edges sys → (d : State) → StandsAt (from sys e) d → (j : ℕ)
        → j < length (chosen.looked e) → is_some (seen sys e a (get_or (chosen.looked e) j 0)) ≡ true
    looked_there e lt d at j j-lt =
        let x = get_or (chosen.looked e) j 0 in
        let list = chosen_is.listed.looked e lt in
        let looks : is_looked sys e x ≡ true = list.within j j-lt in
        let cell : is_seen b x ≡ true = first_true (is_seen b x) (chosen.place.looks e x) looks in
        let slot = cell_in (standing sys a (slot_at (kept_at sys (from sys e) x) x)) in
        ap is_some (cond_is (is_looked sys e x) (seen_at sys e a x) (sys.scratch x) looks)
        ∙ ap is_some (sym (at.cells x ∙ cond_is (is_seen b x) slot None cell))
        ∙ some_at x (get d.cells x) cell (at.fits.cells x)

    abbrev small_of : ℕ → State → State
    small_of e d = record { temps = d.temps; cells = table_with (seen sys e a) chosen.cells }

    -- so the row is applied to the state of the front with what is seen
    small_is : (e : ℕ) → e < edges sys → (d : State) → StandsAt (from sys e) d
        → small_at sys e a ≡ Some (small_of e d)
    small_is e lt d at =
        ap (λ y. small sys e y (seen sys e a)) at.front
        ∙ cond_is (is_ready sys e (seen sys e a)) (Some (small_of e d)) None
        (all_members (λ x. is_some (seen sys e a x)) (chosen.looked e) (looked_there e lt d at))

    stands_there : (n : ℕ) → n < nodes sys → (d : State) → table n ≡ Some d → StandsAt n d
    stands_there n lt d at =
        subst (IsStandingAt states (FitsBody b) (equations_of b entry store) (state_parts (carry_along b store))
        chosen.place (is_seen b) (fronts_of sys a) n) at (expanded n lt)

    -- what was allowed of the constraints was checked of the table's states
    pub are_checked : AreChecked (FitsBody b) (equations_of b entry store) (λ e. around_along b (copy_at b e))
        (λ e. action_along b (copy_at b e)) store chosen.place copies fresh pending table
    are_checked e lt d at =
        let stands = stands_there (from sys e) (law.from_node e lt) d at in
        let r = chosen_is.numbered.rules (row e) lt in
        let passed = subst (λ q. AllowsRule sys Checks q a) r.1.1 (allowed r.0 r.1.0) in
        checked_by_front (around_along b (copy_at b e)) (chosen.place.touches e) (chosen.place.carries e)
        (chosen.place.looks e) copies fresh pending (action_along b (copy_at b e)) store (small_of e d) d refl
        (subst (λ y. IfSome y (Checks e)) (small_is e lt d stands) passed)

    fits_at : (n : ℕ) (y : Option State)
        → IsStandingAt states (FitsBody b) (equations_of b entry store) (state_parts (carry_along b store))
        chosen.place (is_seen b) (fronts_of sys a) n y → IfSome y (FitsBody b n)
    fits_at n None at = tt
    fits_at n (Some s) at = at.fits

    kept_at_node : (n : ℕ) (y : Option State)
        → IsStandingAt states (FitsBody b) (equations_of b entry store) (state_parts (carry_along b store))
        chosen.place (is_seen b) (fronts_of sys a) n y
        → IfSome y Traced → IfSome ((fronts_of sys a).front_of n) (Keeps n)
    kept_at_node n None at h = subst (λ f. IfSome f (Keeps n)) (sym at) tt
    kept_at_node n (Some s) at h = subst (λ f. IfSome f (Keeps n)) (sym at.front) h.copied

    -- The law: with states that are traced the table of the least assignment is the least solution.
    pub body_assignment_solves : ((e x : ℕ) → e < edges sys → chosen.place.touches e x ≡ true
        → chosen.place.looks e x ≡ true) → IfSome entry Traced
        → IsLeast (standings fronts cells) (FitsVariable sys (FitsFront b) (FitsCellAt b)) (Allows sys Checks)
        (front_constraints sys) a
        → ((n : ℕ) → n < nodes sys → IfSome (table n) Traced)
        → IsLeastSolution states (FitsBody b) (equations_of b entry store) table
    body_assignment_solves looked entry_traced least traced =
        let fits : ((n : ℕ) → n < nodes sys → IfSome (table n) (FitsBody b n)) =
        λ n lt. fits_at n (table n) (expanded n lt) in
        least_assignment_solves states fronts cells (FitsBody b) (FitsFront b) (FitsCellAt b) sys Keeps Checks
        (body_is_sparse b sorts is tasks store store_fits entry entry_fits chosen chosen_is)
        (bodies_are_local b entry store chosen copies fresh pending looked) (λ n s. Traced s) (λ n s h. h.copied)
        a least allowed (λ n lt. kept_at_node n (table n) (expanded n lt) (traced n lt)) table expanded
        (bodies.own_framed (FitsBody b) (equations_of b entry store) (λ e. around_along b (copy_at b e))
        (λ e. action_along b (copy_at b e)) (λ e. (let c = copy_at b e in is_some c.to)) store b.marks (cells_at b)
        (body_rows.rows b sorts is tasks store store_fits entry entry_fits) chosen.place copies fresh pending
        states_order states_join law chosen_is.placed table are_checked traced fits)
        (bodies.traces_kept (FitsBody b) (equations_of b entry store) (λ e. around_along b (copy_at b e))
        (λ e. action_along b (copy_at b e)) (λ e. (let c = copy_at b e in is_some c.to)) store b.marks (cells_at b)
        (body_rows.rows b sorts is tasks store store_fits entry entry_fits) chosen.place copies fresh pending
        states_order states_join law chosen_is.placed table are_checked entry_traced fits)
        (bodies.traced_framed (FitsBody b) (equations_of b entry store) (λ e. around_along b (copy_at b e))
        (λ e. action_along b (copy_at b e)) (λ e. (let c = copy_at b e in is_some c.to)) store b.marks (cells_at b)
        (body_rows.rows b sorts is tasks store store_fits entry entry_fits) chosen.place copies fresh pending
        states_order states_join law chosen_is.placed table are_checked fits)
