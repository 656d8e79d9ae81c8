-- The table of a task.
use Rattle.std.specs.Prelude.{◌≡◌, ℕ, ◌<◌, List, length, map, Option, Some, None, IfSome}
use Rattle.std.proofs.Common.{sym, ap, subst, ◌∙◌, arith}
use Rattle.interfere_set.specs.Stores.{Interferences, no_interference, joined_store}
use Rattle.program_equality.specs.transfer_rows.StateForms.{State}
use Rattle.table_covers.specs.Solutions.{NodeTable, at, IsLeastSolution}
use Rattle.table_covers.specs.Passes.{added_below}
use Rattle.least_tables.specs.Settling.{IsVisited, first_table}
use Rattle.program_equality.specs.task_equations.Bodies.{Body, copy_at}
use Rattle.program_equality.specs.task_equations.Equations.{equations_of, link_of, added_along}
use Rattle.program_equality.specs.program_equations.Programs.{ProgramBodies, body_at, IsProgram}
use Rattle.program_equality.specs.program_equations.Systems.{states, FitsBody, FitsProgram, task_entry, least_section}
use Rattle.program_equality.specs.program_equations.Systems.{pass_of}
use Rattle.program_equality.specs.program_equations.laws.Sections.{section_is, section_is_least, entry_is_one}
use Rattle.program_equality.specs.program_equations.laws.TaskEntries.{task_entry_fits}
use Rattle.program_equality.specs.program_equations.laws.Tables.{pass_is_one}
use Rattle.thread_pass.specs.Analyses.{IsSectionTable, IsLeastTable}
use Rattle.thread_pass.specs.Kept.{AreVisitsOf, first_of}

module _ (p : ProgramBodies) (is : IsProgram p) where
  pub in_bodies : (t : ℕ) → t < p.tasks → t < length p.bodies
  in_bodies t lt = (let le = is.tasks in omega (arith, lt, le))

  -- the state at the entry of a task fits
  pub entry_fits : (t : ℕ) → t < p.tasks → (entry : Option State) → entry ≡ task_entry p (least_section p) t
      → IfSome entry (FitsBody (body_at p t) 0)
  entry_fits t lt entry e =
      subst (λ o. IfSome o (FitsBody (body_at p t) 0)) (sym e)
      (task_entry_fits p is (least_section p) (section_is p is) t (in_bodies t lt))

  -- a table of the initial section tells where tasks begin
  pub entry_from : (section : List (Option State)) → IsSectionTable p section → (t : ℕ)
      → task_entry p section t ≡ task_entry p (least_section p) t
  entry_from section table t = entry_is_one p is section table.least t

  module _ (t : ℕ) (lt : t < p.tasks) (b : Body) (entry : Option State) (store given : Interferences)
      (b-is : b ≡ body_at p t) (entry-is : entry ≡ task_entry p (least_section p) t) (store-is : given ≡ store)
      (fits : FitsProgram p store) where
    -- what the equations of the task's body give
    pub table_is : (table : List (Option State)) → length table ≡ length b.nodes
        → IsLeastSolution states (FitsBody b) (equations_of b entry given) (at table) → IsLeastTable p t store table
    table_is table count least = record {
      count = count ∙ ap (λ (x : Body). length x.nodes) b-is;
      least = subst (λ s. IsLeastSolution states (FitsBody (body_at p t))
          (equations_of (body_at p t) (task_entry p (least_section p) t) s) (at table)) store-is
          (subst (λ o. IsLeastSolution states (FitsBody (body_at p t)) (equations_of (body_at p t) o given) (at table))
          entry-is
          (subst (λ x. IsLeastSolution states (FitsBody x) (equations_of x entry given) (at table)) b-is least));
    }

    abbrev added_by : List (Option State) → Body → Interferences
    added_by table x = added_below (map link_of x.copies) no_interference (λ k v. added_along x (copy_at x k) v)
        joined_store (length (map link_of x.copies)) (at table)

    -- what its edges add is the pass
    pub added_is : (table : List (Option State)) → length table ≡ length b.nodes
        → IsLeastSolution states (FitsBody b) (equations_of b entry given) (at table)
        → (added : Interferences) → added ≡ added_by table b → added ≡ pass_of p t store
    added_is table count least added e =
        e ∙ ap (added_by table) b-is
        ∙ pass_is_one p is (least_section p) (section_is_least p is) t lt store fits (at table)
        (let found = table_is table count least in found.least)

    abbrev IsVisitedOver : ℕ → NodeTable State → List (Option State) → Body → Option State → Interferences → Type 0
    IsVisitedOver visits before table x o s = IsVisited states (FitsBody x) (equations_of x o s) visits before (at table)

    abbrev IsVisitedFirst : ℕ → List (Option State) → Body → Option State → Interferences → Type 0
    IsVisitedFirst visits table x o s = IsVisited states (FitsBody x) (equations_of x o s) visits
        (first_table states (FitsBody x) (equations_of x o s)) (at table)

    onward : (P : Body → Option State → Interferences → Type 0) → P b entry given
        → P (body_at p t) (task_entry p (least_section p) t) store
    onward P x = subst (λ s. P (body_at p t) (task_entry p (least_section p) t) s) store-is
        (subst (λ o. P (body_at p t) o given) entry-is (subst (λ y. P y entry given) b-is x))

    -- and how many edges were applied
    pub visits_are : (visits : ℕ) (before : NodeTable State) (table : List (Option State))
        → IsVisited states (FitsBody b) (equations_of b entry given) visits before (at table)
        → AreVisitsOf p t store visits before table
    visits_are visits before table visited = onward (IsVisitedOver visits before table) visited

    pub first_visits_are : (visits : Option ℕ) (table : List (Option State))
        → IfSome visits (λ v. IsVisited states (FitsBody b) (equations_of b entry given) v
        (first_table states (FitsBody b) (equations_of b entry given)) (at table))
        → IfSome visits (λ v. AreVisitsOf p t store v (first_of p t store) table)
    first_visits_are None table visited = visited
    first_visits_are (Some v) table visited = onward (IsVisitedFirst v table) visited
