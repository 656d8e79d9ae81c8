-- The least tables of a program over a store.
use Rattle.std.specs.Prelude.{◌≡◌, ℕ, ◌<◌, List, [], ◌∷◌, ◌++◌, Option}
use Rattle.tm_lattice.specs.Rounds.{IsHistory, IsClosed}
use Rattle.interfere_set.specs.Stores.{Interferences}
use Rattle.store_limits.specs.transfer_rows.StateForms.{State}
use Rattle.table_covers.specs.Solutions.{IsLeastSolution}
use Rattle.store_limits.specs.program_equations.Programs.{ProgramBodies, body_at, HasSection}
use Rattle.store_limits.specs.program_equations.Systems.{states, stores, FitsBody, task_system, IsLeastSection}
use Rattle.store_limits.specs.program_equations.Solutions.{passing, table_at, tables_of}
use Rattle.thread_pass.specs.Analyses.{IsSectionTable}
use Rattle.program_reports.specs.post_recheck.Pairs.{Pair, FitsPair}

-- the tables of the tasks, and then the least one of the initial section, where there is one
pub record AreCompleted (p : ProgramBodies) (tables all : List (List (Option State))) : Type 0 where
  pub section : List (Option State)
  pub is_least : IsSectionTable p section
  pub none : (HasSection p → ⊥) → all ≡ tables
  pub some : HasSection p → all ≡ tables ++ (section ∷ [])

-- least tables over a store that ends a history and to which no pass adds anything
pub record AreLeastTables (p : ProgramBodies) (pair : Pair) : Type 0 where
  pub earlier : List Interferences
  pub history : IsHistory stores passing p (pair.store ∷ earlier)
  pub closed : IsClosed stores passing p pair.store
  pub fits : FitsPair p pair
  pub section : IsLeastSection p (table_at pair.tables p.tasks)
  pub least : (t : ℕ) → t < p.tasks → IsLeastSolution states (FitsBody (body_at p t))
      (task_system p (table_at pair.tables p.tasks) pair.store t) (tables_of pair.tables t)
