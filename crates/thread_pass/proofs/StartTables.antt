-- Passes that go on from a table of an earlier pass.
use Rattle.std.specs.Prelude.{◌≡◌, ℕ, ◌<◌, List, length, map, Bool, true, false, slice_index_or}
use Rattle.std.specs.Prelude.{Option, Some, None, refl}
use Rattle.std.proofs.Common.{sym, ap, subst, ◌∙◌}
use Rattle.interfere_set.specs.Stores.{Interferences}
use Rattle.interfere_set.specs.laws.StoreLaws.{store_order, store_join, store_closure}
use Rattle.program_equality.specs.transfer_rows.StateForms.{State}
use Rattle.program_equality.specs.state_fits.laws.PlacesFit.{states_order, states_join}
use Rattle.cell_env.specs.tm_lattice.Tables.{IsBelow}
use Rattle.table_covers.specs.Systems.{from_of, to_of}
use Rattle.table_covers.specs.Solutions.{NodeTable, at, brought, IsNodewiseBelow, IsStarted, IsClosedTable}
use Rattle.least_tables.specs.Settling.{IsMetOrPending}
use Rattle.table_covers.specs.laws.WholeLeast as least
use Rattle.table_covers.specs.laws.Closing as closing
use Rattle.program_equality.specs.task_equations.Bodies.{Body, copy_at}
use Rattle.program_equality.specs.task_equations.Equations.{equations_of, link_of, after_along}
use Rattle.program_equality.specs.program_equations.Programs.{ProgramBodies, body_at, IsProgram}
use Rattle.program_equality.specs.program_equations.Systems.{states, stores, FitsBody, FitsProgram, task_entry}
use Rattle.program_equality.specs.program_equations.Systems.{task_system}
use Rattle.program_equality.specs.program_equations.Systems.{least_section, least_local, IsSection}
use Rattle.program_equality.specs.program_equations.Systems.{IsSectionBelow}
use Rattle.program_equality.specs.program_equations.Solutions.{node_count, links_in, after_in, entry_in, outward_in}
use Rattle.program_equality.specs.program_equations.Solutions.{heads_in, suits_in}
use Rattle.program_equality.specs.program_equations.Solutions.{height_of, limit_in, added_in, passing}
use Rattle.program_equality.specs.program_equations.laws.StoresFit.{bottom}
use Rattle.program_equality.specs.program_equations.laws.Lawful.{program_is_lawful}
use Rattle.program_equality.specs.program_equations.laws.Passing.{fitting}
use Rattle.thread_pass.specs.Analyses.{IsStartTable}
use Rattle.thread_pass.specs.StoreUses.{reads_along}
use Rattle.thread_pass.proofs.Uses.{mark_at, unread_along}

module _ (p : ProgramBodies) (is : IsProgram p) (t : ℕ) (lt : t < p.tasks) (store : Interferences)
    (fits : FitsProgram p store) where
  abbrev IsStartedOver : List (Option State) → Body → Option State → Interferences → Type 0
  IsStartedOver table b entry given = IsStarted states (FitsBody b) (equations_of b entry given) (at table)

  -- it lies below each closed table
  abbrev LiesBelow : List (Option State) → Body → Option State → Interferences → Type 0
  LiesBelow table b entry given = (other : NodeTable State)
      → IsClosedTable states (FitsBody b) (equations_of b entry given) other
      → IsNodewiseBelow states (FitsBody b) (equations_of b entry given) (at table) other

  abbrev IsPendingOver : List (Option State) → List Bool → Body → Option State → Interferences → Type 0
  IsPendingOver table reads b entry given =
      IsMetOrPending states (FitsBody b) (equations_of b entry given) (at table) reads

  abbrev first : Option State
  first = task_entry p (least_section p) t

  module _ (table : List (Option State)) (start : IsStartTable p t store table) where
    started_here : IsStartedOver table (body_at p t) first store
    started_here =
        let warm = least.warm_start states (node_count p) (links_in p) (after_in p) (entry_in p) (outward_in p)
        (heads_in p) (suits_in p) (height_of p) (limit_in p) (added_in p) stores passing p (IsSectionBelow p)
        (IsSection p) (least_section p) (least_local p) states_order states_join store_order store_join store_closure
        (fitting p is) (bottom p.marks) (program_is_lawful p is) t start.before store (at table) lt start.before_fits
        fits start.before_below start.before_least.least in
        warm.started

    below_here : (other : NodeTable State)
        → IsClosedTable states (FitsBody (body_at p t)) (task_system p (least_section p) store t) other
        → IsNodewiseBelow states (FitsBody (body_at p t)) (task_system p (least_section p) store t) (at table) other
    below_here =
        let warm = least.warm_start states (node_count p) (links_in p) (after_in p) (entry_in p) (outward_in p)
        (heads_in p) (suits_in p) (height_of p) (limit_in p) (added_in p) stores passing p (IsSectionBelow p)
        (IsSection p) (least_section p) (least_local p) states_order states_join store_order store_join store_closure
        (fitting p is) (bottom p.marks) (program_is_lawful p is) t start.before store (at table) lt start.before_fits
        fits start.before_below start.before_least.least in
        warm.below

    -- an edge that does not look into the store is met still
    pending_here : (reads : List Bool) → (let b = body_at p t in reads ≡ map (reads_along b.edges) b.copies)
        → IsPendingOver table reads (body_at p t) first store
    pending_here reads is-reads e e-lt unset =
        let before = program_is_lawful p is in
        let law = before.system t start.before (least_section p) lt start.before_fits before.begins in
        let closed = closing.least_is_closed states (FitsBody (body_at p t))
        (task_system p (least_section p) start.before t) states_order states_join law (at table)
        start.before_least.least in
        let copies = (let b = body_at p t in b.copies) in
        let quiet = mark_at (λ c. (let b = body_at p t in reads_along b.edges c)) copies e
        (sym (ap (λ xs. slice_index_or xs e true) is-reads) ∙ unset) in
        subst (λ x. IsBelow states.leq x (at table (to_of (map link_of copies) e)))
        (same e quiet (at table (from_of (map link_of copies) e))) (closed.edges e e-lt)
      where
        same : (e : ℕ) → (let b = body_at p t in reads_along b.edges (copy_at b e) ≡ false) → (x : Option State)
            → brought (λ s. (let b = body_at p t in after_along b start.before (copy_at b e) s)) x
            ≡ brought (λ s. (let b = body_at p t in after_along b store (copy_at b e) s)) x
        same e quiet None = refl
        same e quiet (Some s) = unread_along (body_at p t) (copy_at (body_at p t) e) quiet s start.before store

  module _ (b : Body) (entry : Option State) (given : Interferences) (b-is : b ≡ body_at p t)
      (entry-is : entry ≡ first) (store-is : given ≡ store) where
    -- what holds of the equations of the program holds of those that are given, and the other way
    onto : (P : Body → Option State → Interferences → Type 0) → P (body_at p t) first store → P b entry given
    onto P x = subst (λ y. P y entry given) (sym b-is) (subst (λ o. P (body_at p t) o given) (sym entry-is)
        (subst (λ s. P (body_at p t) first s) (sym store-is) x))

    back : (P : Body → Option State → Interferences → Type 0) → P b entry given → P (body_at p t) first store
    back P x = subst (λ s. P (body_at p t) first s) store-is (subst (λ o. P (body_at p t) o given) entry-is
        (subst (λ y. P y entry given) b-is x))

    module _ (table : List (Option State)) (start : IsStartTable p t store table) where
      -- the work list may begin with the table
      pub start_nodes : length table ≡ length b.nodes
      start_nodes = start.before_least.count ∙ ap (λ (x : Body). length x.nodes) (sym b-is)

      pub is_started : IsStarted states (FitsBody b) (equations_of b entry given) (at table)
      is_started = onto (IsStartedOver table) (started_here table start)

      pub is_pending : (reads : List Bool) → (let x = body_at p t in reads ≡ map (reads_along x.edges) x.copies)
          → IsMetOrPending states (FitsBody b) (equations_of b entry given) (at table) reads
      is_pending reads is-reads = onto (IsPendingOver table reads) (pending_here table start reads is-reads)

      pub is_below : (other : NodeTable State)
          → IsClosedTable states (FitsBody b) (equations_of b entry given) other
          → IsNodewiseBelow states (FitsBody b) (equations_of b entry given) (at table) other
      is_below = onto (LiesBelow table) (below_here table start)
