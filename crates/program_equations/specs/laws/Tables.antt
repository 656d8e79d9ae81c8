-- Least tables are one: after the least solution of the initial section, the least table of a task over a store gives
-- its pass.
use Rattle.std.specs.Prelude.{◌≡◌, ℕ, ◌<◌, List, length, map, Option}
use Rattle.std.proofs.Common.{ap, subst, arith}
use Rattle.edge_filters.specs.interfere_set.Stores.{Interferences, no_interference, joined_store}
use Rattle.edge_filters.specs.transfer_rows.StateForms.{State}
use Rattle.task_equations.specs.table_covers.Systems.{IsLawfulSystem}
use Rattle.task_equations.specs.table_covers.Solutions.{NodeTable, least_of, IsLeastSolution}
use Rattle.task_equations.specs.table_covers.laws.Iterates as iterates
use Rattle.task_equations.specs.state_fits.laws.PlacesFit.{states_order, states_join}
use Rattle.task_equations.specs.Bodies.{copy_at}
use Rattle.task_equations.specs.Equations.{equations_of, link_of, added_along}
use Rattle.program_equations.specs.Programs.{ProgramBodies, body_at, IsProgram}
use Rattle.program_equations.specs.Systems.{states, FitsBody, FitsProgram, task_entry, task_system}
use Rattle.program_equations.specs.Systems.{least_section, least_local, added_at, pass_of, IsLeastSection}
use Rattle.program_equations.specs.laws.Alike.{added_alike}
use Rattle.program_equations.specs.laws.Fitting.{body_is_lawful}
use Rattle.program_equations.specs.laws.Lawful.{in_bodies, local_is_least}
use Rattle.program_equations.specs.laws.Sections.{section_is, entry_is_one}
use Rattle.program_equations.specs.laws.TaskEntries.{task_entry_fits}

module _ (p : ProgramBodies) (is : IsProgram p) (section : List (Option State)) (first : IsLeastSection p section)
    (t : ℕ) (lt : t < p.tasks) (store : Interferences) (fits : FitsProgram p store) where
  -- the equations of a task are the same after each least solution of the initial section
  pub system_is_one : task_system p section store t ≡ task_system p (least_section p) store t
  system_is_one = ap (λ entry. equations_of (body_at p t) entry store) (entry_is_one p is section first t)

  lawful : IsLawfulSystem states.is_value states.leq states.joined (FitsBody (body_at p t))
      (task_system p (least_section p) store t)
  lawful =
      body_is_lawful p is t (in_bodies p is t lt) (task_entry p (least_section p) t) store fits
      (task_entry_fits p is (least_section p) (section_is p is) t (in_bodies p is t lt))

  module _ (table : NodeTable State)
      (least : IsLeastSolution states (FitsBody (body_at p t)) (task_system p section store t) table) where
    -- a least solution agrees with the least table
    pub table_is_one : (n : ℕ) → n < (let b = body_at p t in length b.nodes) → table n ≡ least_local p t store n
    table_is_one n within =
        iterates.least_is_one states (FitsBody (body_at p t)) (task_system p (least_section p) store t) states_order
        states_join lawful table (least_local p t store)
        (subst (λ sys. IsLeastSolution states (FitsBody (body_at p t)) sys table) system_is_one least)
        (local_is_least p is t store lt fits) n within

    -- and contributes the same
    pub pass_is_one : added_at p t table ≡ pass_of p t store
    unfolding pass_of
    pass_is_one =
        let b = body_at p t in
        added_alike (map link_of b.copies) (length b.nodes) no_interference (λ k s. added_along b (copy_at b k) s)
        joined_store lawful.from_node table (least_local p t store) table_is_one (length (map link_of b.copies))
        (omega arith)

  -- the contributions at the least table of the equations after that section are the pass
  pub least_pass_is : added_at p t (least_of states (FitsBody (body_at p t)) (task_system p section store t))
      ≡ pass_of p t store
  unfolding pass_of least_local
  least_pass_is =
      ap (λ sys. added_at p t (least_of states (FitsBody (body_at p t)) sys)) system_is_one
