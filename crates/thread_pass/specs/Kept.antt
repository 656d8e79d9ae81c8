-- What a pass keeps for the next pass of its task, and how many edges it applied.
use Rattle.std.specs.Prelude.{◌≡◌, ℕ, List, Option, Some, None, MatchOption, IfSome}
use Rattle.program_equality.specs.transfer_rows.StateForms.{State}
use Rattle.interfere_set.specs.Stores.{Interferences}
use Rattle.table_covers.specs.Solutions.{NodeTable, at}
use Rattle.least_tables.specs.Settling.{IsVisited, first_table}
use Rattle.program_equality.specs.program_equations.Programs.{ProgramBodies, body_at}
use Rattle.program_equality.specs.program_equations.Systems.{states, FitsBody, task_system, least_section, pass_of}
use Rattle.thread_pass.specs.Analyses.{IsLeastTable}
use Rattle.thread_pass.specs.Starts.{StartOf, AreTaskValues}

-- a table, what its edges contribute, the store over which both were found, how many edges were applied for it, where
-- that is told, and what the next pass may go on from by slots
pub record KeptTable : Type 0 where
  pub table : List (Option State)
  pub added : Interferences
  pub store : Interferences
  pub visits : Option ℕ
  pub start : Option StartOf

-- it is the least table of the task over that store, with the pass, and this stands at the variables of the task there
pub record IsKeptOf (p : ProgramBodies) (t : ℕ) (kept : KeptTable) : Type 0 where
  pub table : IsLeastTable p t kept.store kept.table
  pub added : kept.added ≡ pass_of p t kept.store
  pub start : IfSome kept.start (AreTaskValues p t kept.store)

-- the same, where no edge was applied
abbrev pub unvisited : KeptTable → KeptTable
unvisited kept = record {
  table = kept.table;
  added = kept.added;
  store = kept.store;
  visits = Some 0;
  start = kept.start;
}

-- so many edges of a task, applied one after another over a store, lead from the one table to the other
abbrev pub AreVisitsOf : ProgramBodies → ℕ → Interferences → ℕ → NodeTable State → List (Option State) → Type 0
AreVisitsOf p t store visits before table =
    IsVisited states (FitsBody (body_at p t)) (task_system p (least_section p) store t) visits before (at table)

-- so many are told, and this holds of them
abbrev pub AreTold : Option ℕ → (ℕ → Type 0) → Type 0
AreTold visits P = MatchOption visits ⊥ P

-- so many are told, but for a pass that may go on by slots, and this holds of them
abbrev pub AreToldUnless : Option StartOf → Option ℕ → (ℕ → Type 0) → Type 0
AreToldUnless None visits P = AreTold visits P
AreToldUnless (Some start) visits P = IfSome visits P

-- the table with which the first pass begins: bottom, but for the state in which the task does
abbrev pub first_of : ProgramBodies → ℕ → Interferences → NodeTable State
first_of p t store = first_table states (FitsBody (body_at p t)) (task_system p (least_section p) store t)
