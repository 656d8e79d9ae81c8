-- The least table of the initial section: it is the least solution of its equations, and the one such table.
use Rattle.std.specs.Prelude.{◌≡◌, ℕ, ◌<◌, cond, List, [], length, Option, Some}
use Rattle.std.proofs.Common.{sym, ap, ◌∙◌}
use Rattle.edge_filters.specs.transfer_rows.StateForms.{State}
use Rattle.edge_filters.proofs.low.edge_actions.Lists.{lt_test}
use Rattle.edge_filters.specs.interfere_set.Stores.{no_interference}
use Rattle.task_equations.specs.table_covers.Systems.{IsLawfulSystem}
use Rattle.task_equations.specs.table_covers.Solutions.{NodeTable, at, least_of, IsLeastSolution}
use Rattle.task_equations.specs.table_covers.laws.Iterates as iterates
use Rattle.task_equations.specs.state_fits.laws.PlacesFit.{states_order, states_join}
use Rattle.task_equations.specs.Bodies.{Body}
use Rattle.program_equations.specs.Programs.{ProgramBodies, body_at, HasSection, IsProgram}
use Rattle.program_equations.specs.Entries.{first_state}
use Rattle.program_equations.specs.Systems.{states, FitsBody, section_system, task_entry, listed, least_section}
use Rattle.program_equations.specs.Systems.{IsSection, IsLeastSection, IsSectionBelow}
use Rattle.program_equations.specs.laws.Alike.{least_alike, at_listed}
use Rattle.program_equations.specs.laws.Fitting.{body_is_lawful}
use Rattle.program_equations.specs.laws.StoresFit.{nothing_fits}
use Rattle.program_equations.specs.laws.TaskEntries.{first_fits, task_entry_agrees}

module _ (p : ProgramBodies) (is : IsProgram p) where
  abbrev body : Body
  body = body_at p p.tasks

  abbrev nodes : ℕ
  nodes = length body.nodes

  module _ (has : HasSection p) where
    pub section_is_lawful : IsLawfulSystem states.is_value states.leq states.joined (FitsBody (body_at p p.tasks))
        (section_system p)
    section_is_lawful =
        body_is_lawful p is p.tasks has (Some (first_state p.laid p.tasks)) no_interference
        (nothing_fits p.laid p.tasks) (first_fits p is p.tasks has)

    abbrev least : NodeTable State
    least = least_of states (FitsBody body) (section_system p)

    at_section : (n : ℕ) → n < nodes → at (least_section p) n ≡ least n
    at_section n lt =
        ap (λ b. at (cond b (listed nodes least) []) n) (lt_test p.tasks (length p.bodies) has)
        ∙ at_listed least nodes n lt

    -- the least table of the initial section is the least solution of its equations
    pub section_is_least : IsLeastSolution states (FitsBody (body_at p p.tasks)) (section_system p)
        (at (least_section p))
    section_is_least =
        least_alike states (FitsBody body) (section_system p) section_is_lawful least (at (least_section p))
        (λ n lt. sym (at_section n lt))
        (iterates.least_is_least states (FitsBody body) (section_system p) states_order states_join section_is_lawful)

    -- a table that is the least solution agrees with it
    pub section_is_one : (section : List (Option State))
        → IsLeastSolution states (FitsBody (body_at p p.tasks)) (section_system p) (at section) → (n : ℕ)
        → n < (let b = body_at p p.tasks in length b.nodes) → at section n ≡ at (least_section p) n
    section_is_one section h n lt =
        iterates.least_is_one states (FitsBody body) (section_system p) states_order states_join section_is_lawful
        (at section) (at (least_section p)) h section_is_least n lt

  pub section_is : IsSection p (least_section p)
  section_is has = (section_is_least has).solves

  pub section_is_first : (section : List (Option State)) → IsSection p section
      → IsSectionBelow p (least_section p) section
  section_is_first section h has = (section_is_least has).below (at section) (h has)

  -- the tasks begin alike after each least solution of the initial section
  pub entry_is_one : (section : List (Option State)) → IsLeastSection p section → (t : ℕ)
      → task_entry p section t ≡ task_entry p (least_section p) t
  entry_is_one section h t =
      task_entry_agrees p is section (least_section p) (λ has. section_is_one has section (h has)) t
