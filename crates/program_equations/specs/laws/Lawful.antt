-- A program is lawful: its equations are systems that rise with the store and with the initial section, and what its
-- tasks add is that of their least tables.
use Rattle.std.specs.Prelude.{◌≡◌, ℕ, ◌<◌, List, length, map, Option, Some, None, IfSome}
use Rattle.std.proofs.Common.{sym, ap, subst, arith}
use Rattle.std.proofs.lemmas.List.{get_or-map, length-map}
use Rattle.region_cells.specs.tm_lattice.Tables.{IsBelow}
use Rattle.region_cells.specs.tm_typed.declared.types.Scalar.{Scalar}
use Rattle.task_equations.specs.mutex_configs.declared.nodes.EdgeCopy.{EdgeCopy}
use Rattle.edge_filters.specs.interfere_set.Stores.{Interferences, IsStoreBelow, no_interference}
use Rattle.edge_filters.specs.interfere_set.laws.StoreLaws.{store_order, store_join}
use Rattle.edge_filters.specs.transfer_rows.StateForms.{State, IsStateForm, IsStateUnder}
use Rattle.edge_filters.specs.transfer_rows.Actions.{Spot}
use Rattle.edge_filters.specs.transfer_rows.Meanings.{IsSpotOf}
use Rattle.edge_filters.specs.transfer_rows.Rows.{after}
use Rattle.edge_filters.proofs.low.transfer_rows.RowsRise.{after_rises}
use Rattle.edge_filters.specs.edge_actions.Layouts.{spots_of}
use Rattle.edge_filters.proofs.low.edge_actions.ActionForms.{edge_is}
use Rattle.task_equations.specs.table_covers.declared.links.Link.{Link}
use Rattle.task_equations.specs.table_covers.Systems.{no_link, from_of}
use Rattle.task_equations.specs.table_covers.Solutions.{NodeTable, IsLeastSolution}
use Rattle.task_equations.specs.table_covers.laws.Iterates as iterates
use Rattle.task_equations.specs.table_covers.laws.AddedTotals as totals
use Rattle.task_equations.specs.table_covers.Whole as whole
use Rattle.task_equations.specs.state_fits.Fits.{FitsStore}
use Rattle.task_equations.specs.state_fits.laws.PlacesFit.{states_order, states_join}
use Rattle.task_equations.specs.Bodies.{Body, no_copy, edge_of, copy_at}
use Rattle.task_equations.specs.Equations.{tests_pointer, action_along, around_along, led, after_along, added_along}
use Rattle.task_equations.specs.Equations.{link_of}
use Rattle.program_equations.specs.Programs.{ProgramBodies, body_at, IsProgram}
use Rattle.program_equations.specs.Systems.{states, stores, FitsBody, FitsProgram, task_entry, task_system}
use Rattle.program_equations.specs.Systems.{least_section, least_local, pass_of, IsSection, IsSectionBelow}
use Rattle.program_equations.specs.Solutions.{passing, node_count, links_in, after_in, entry_in, outward_in, heads_in}
use Rattle.program_equations.specs.Solutions.{suits_in, height_of, limit_in, added_in, IsWholeLawful}
use Rattle.program_equations.specs.laws.Fitting.{body_is_lawful}
use Rattle.program_equations.specs.laws.Sections.{section_is, section_is_first}
use Rattle.program_equations.specs.laws.StoresFit.{nothing_fits, joined_fits, added_fits, added_rises, bottom}
use Rattle.program_equations.specs.laws.TaskEntries.{task_entry_fits, task_entry_rises}

-- ## Along an edge

led_rises : (to : Option ℕ) (x y : Option State) → IsBelow IsStateUnder x y → IsBelow IsStateUnder (led to x) (led to y)
led_rises None x y le = tt
led_rises (Some n) x y le = le

module _ (b : Body) (s : State) (s-is : IsStateForm s) where
  -- more in the store gives more along each edge
  along_rises : (store store' : Interferences) (tasks : ℕ) → FitsStore b.laid tasks store
      → FitsStore b.laid tasks store' → IsStoreBelow store store' → (c : EdgeCopy)
      → IsBelow IsStateUnder (after_along b store c s) (after_along b store' c s)
  along_rises store store' tasks fits fits' le c =
      let edge = edge_of b c in
      led_rises c.to
      (after (around_along b c) (action_along b c) s store) (after (around_along b c) (action_along b c) s store')
      (after_rises (around_along b c) s s s-is s-is (states_order.reflexive s s-is) store store' fits.form fits'.form le
      (action_along b c) (edge_is b.laid b.task (tests_pointer b.pointers edge.op) c.answer edge.op))

module _ (p : ProgramBodies) (is : IsProgram p) where
  abbrev body : ℕ → Body
  body t = body_at p t

  abbrev links : ℕ → List Link
  links t = let b = body_at p t in map link_of b.copies

  abbrev added : ℕ → ℕ → State → Interferences
  added t e s = added_along (body t) (copy_at (body t) e) s

  pub in_bodies : (t : ℕ) → t < p.tasks → t < length p.bodies
  in_bodies t lt = let le = is.tasks in omega arith

  in_copies : (t e : ℕ) → e < length (links t) → e < (let b = body_at p t in length b.copies)
  in_copies t e lt = let b = body_at p t in subst (λ n. e < n) (length-map b.copies link_of) lt

  from_is : (t e : ℕ) → e < length (links t) → (let c = copy_at (body_at p t) e in from_of (links t) e ≡ c.from)
  from_is t e lt =
      let b = body_at p t in
      ap (λ (l : Link). l.from) (get_or-map link_of b.copies e no_copy no_link (in_copies t e lt))

  form : (t n : ℕ) (s : State) → t < p.tasks → FitsBody (body_at p t) n s → IsStateForm s
  form t n s lt fits = fits.form

  -- what an edge adds fits the program
  edge_adds : (t e : ℕ) (s : State) → t < p.tasks → e < length (links t)
      → FitsBody (body_at p t) (from_of (links t) e) s → FitsProgram p (added t e s)
  edge_adds t e s lt within fits =
      let here = in_bodies t lt in
      let b = body_at p t in
      let c = copy_at b e in
      let at = is.each t here in
      subst (λ l. FitsStore l p.tasks (added t e s)) at.numbered.laid
      (added_fits b (is.sorts t) at.body reached p.tasks (subst (λ k. k < p.tasks) (sym at.numbered.number) lt)
      c (at.body.copies e (in_copies t e within)) s
      (subst (λ n. FitsBody b n s) (from_is t e within) fits))
    where
      reached : (scalar : Scalar) (spot : Spot)
          → (let b = body_at p t in IsSpotOf (spots_of b.laid b.task scalar) spot)
          → (let b = body_at p t in spot.cell < length b.laid.abstract_cells)
      reached scalar spot h =
          let at = is.each t (in_bodies t lt) in
          let b = body_at p t in
          subst (λ l. spot.cell < length l.abstract_cells) (sym at.numbered.laid)
          (at.within scalar spot (subst (λ k. IsSpotOf (spots_of p.laid k scalar) spot) at.numbered.number
          (subst (λ l. IsSpotOf (spots_of l b.task scalar) spot) at.numbered.laid h)))

  -- ## The least tables

  module _ (t : ℕ) (store : Interferences) (lt : t < p.tasks) (fits : FitsProgram p store) where
    abbrev table : NodeTable State
    table = least_local p t store

    pub local_is_least : IsLeastSolution states (FitsBody (body_at p t))
        (task_system p (least_section p) store t) (least_local p t store)
    unfolding least_local
    local_is_least =
        iterates.least_is_least states (FitsBody (body_at p t)) (task_system p (least_section p) store t) states_order
        states_join
        (body_is_lawful p is t (in_bodies t lt) (task_entry p (least_section p) t) store fits
        (task_entry_fits p is (least_section p) (section_is p is) t (in_bodies t lt)))

    adds : (e : ℕ) (s : State) → e < length (links t) → table (from_of (links t) e) ≡ Some s
        → FitsProgram p (added t e s)
    adds e s within stands =
        let lawful = body_is_lawful p is t (in_bodies t lt) (task_entry p (least_section p) t) store fits
        (task_entry_fits p is (least_section p) (section_is p is) t (in_bodies t lt)) in
        let n = from_of (links t) e in
        edge_adds t e s lt within (subst (λ x. IfSome x (FitsBody (body_at p t) n)) stands
        (local_is_least.solves.fits n (lawful.from_node e within)))

    below_all : (s : Interferences) → stores.is_value s → stores.leq no_interference s
    below_all = (bottom p.marks).below

    value : (s : Interferences) → FitsProgram p s → stores.is_value s
    value s h = h.form

    join_fits : (s s' : Interferences) → FitsProgram p s → FitsProgram p s' → FitsProgram p (stores.joined s s')
    join_fits s s' h k = joined_fits p.laid p.tasks s s' h k

    abbrev all : ℕ
    all = length (links t)

    -- what the edges of a task add at its least table is its pass
    pub pass_is : whole.IsPass states (node_count p) (links_in p) (after_in p) (entry_in p) (outward_in p) (heads_in p)
        (suits_in p) (height_of p) (limit_in p) (added_in p) stores passing p (IsSectionBelow p) (IsSection p) t store
        (least_local p t store) (pass_of p t store)
    unfolding pass_of
    pass_is = record {
      fits =
          totals.total_fits stores (FitsProgram p) no_interference (links t) (added t) table store_order store_join
          value
          (nothing_fits p.laid p.tasks) below_all join_fits adds all (omega arith);
      holds = λ e s within stands.
          totals.total_holds stores (FitsProgram p) no_interference (links t) (added t) table store_order store_join
          value (nothing_fits p.laid p.tasks) below_all join_fits adds all e s (omega arith) within stands;
      least = λ bound bound-fits each.
          totals.total_least stores (FitsProgram p) no_interference (links t) (added t) table store_order store_join
          value (nothing_fits p.laid p.tasks) below_all join_fits adds all bound (omega arith) bound-fits
          (λ e s within stands. each e s within stands);
    }

  -- ## The whole

  pub program_is_lawful : IsWholeLawful p (least_section p) (least_local p)
  program_is_lawful = record {
    system = λ t store section lt fits solves.
        body_is_lawful p is t (in_bodies t lt) (task_entry p section t) store fits
        (task_entry_fits p is section solves t (in_bodies t lt));
    after_rises = λ t store store' e s lt fits fits' le within s-fits.
        let b = body_at p t in
        let at = (is.each t (in_bodies t lt)).numbered.laid in
        along_rises b s (form t (from_of (links t) e) s lt s-fits) store store' p.tasks
        (subst (λ l. FitsStore l p.tasks store) (sym at) fits)
        (subst (λ l. FitsStore l p.tasks store') (sym at) fits') le (copy_at b e);
    added_fits = λ t store e s lt fits within s-fits. edge_adds t e s lt within s-fits;
    added_rises = λ t store store' e s s' lt fits fits' le within s-fits s'-fits under.
        let b = body_at p t in
        let n = from_of (links t) e in
        added_rises b (copy_at b e) s s' (form t n s lt s-fits) (form t n s' lt s'-fits) under;
    begins = section_is p is;
    first = λ section solves. section_is_first p is section solves;
    entry_rises = λ one other t lt one-solves other-solves below.
        task_entry_rises p is one other one-solves other-solves below t;
    least = λ t store lt fits. local_is_least t store lt fits;
    passes = λ t store lt fits. pass_is t store lt fits;
  }
