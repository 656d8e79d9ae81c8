-- Passes of the tasks in turn.
use Rattle.std.specs.Prelude.{◌≡◌, ℕ, ◌+◌, ◌-◌, ◌*◌, ◌<◌, ◌≤◌, nat_lt, cond, List, [], ◌∷◌, length, get_or, Option, None, IfSome}
use Rattle.tm_lattice.specs.Rounds.{IsHistory}
use Rattle.interfere_set.specs.Stores.{Interferences, IsStoreBelow, store_height}
use Rattle.store_limits.specs.transfer_rows.StateForms.{State}
use Rattle.store_limits.specs.value_heights.Heights.{value_height}
use Rattle.store_limits.specs.program_equations.Programs.{ProgramBodies, IsProgram}
use Rattle.store_limits.specs.program_equations.Systems.{stores, FitsProgram}
use Rattle.store_limits.specs.program_equations.Solutions.{passing, table_at}
use Rattle.store_limits.specs.Limits.{store_limit, published}
use Rattle.thread_pass.specs.Analyses.{IsLeastTable, IsStartTable}
use Rattle.thread_pass.specs.Starts.{StartOf, AreTaskValues, IsTaskStart}
use Rattle.program_solutions.specs.declared.turns.PassOutcome.{PassOutcome}
use Rattle.program_solutions.specs.declared.turns.PassOutcome.TheVariants.{Quiet, Raised}

-- ## One pass

-- the least table of a task over a store, to which the task's pass adds nothing
pub record IsQuietTable (p : ProgramBodies) (t : ℕ) (store : Interferences) (table : List (Option State)) : Type 0 where
  pub least : IsLeastTable p t store table
  pub below : IsStoreBelow (published p t store) store

-- what a pass brings
abbrev pub IsPassed : ProgramBodies → ℕ → Interferences → PassOutcome → Type 0
IsPassed p t store (Quiet table start) =
    IsQuietTable p t store table.items × IfSome start (AreTaskValues p t store)
IsPassed p t store (Raised table start after) =
    IsLeastTable p t store table.items × IfSome start (AreTaskValues p t store) × (after ≡ published p t store)
    × (IsStoreBelow after store → ⊥)

-- ## Turns

-- the table of the task's last pass, or nothing where it has not passed
abbrev pub IsKeptTable : ProgramBodies → ℕ → Interferences → List (Option State) → Type 0
IsKeptTable p t store table = (table ≡ [] → ⊥) → IsStartTable p t store table

-- the task whose turn comes after that of this one
abbrev pub turn_after : ℕ → ℕ → ℕ
turn_after task tasks = cond (nat_lt (task + 1) tasks) (task + 1) 0

-- the task has passed in this number of turns before the one that is next
pub record HasPassed (tasks next quiet t : ℕ) : Type 0 where
  pub this_time : t < next → next ≤ t + quiet
  pub last_time : next ≤ t → next + tasks ≤ t + quiet

-- The store ends a history, each task can go on from its table and from its start, where it has one, and those that have
-- passed in this number of turns are quiet.
pub record IsUnderway (p : ProgramBodies) (store : Interferences) (tables : List (List (Option State)))
    (starts : List (Option StartOf)) (next quiet : ℕ) : Type 0 where
  pub earlier : List Interferences
  pub history : IsHistory stores passing p (store ∷ earlier)
  pub fits : FitsProgram p store
  pub count : length tables ≡ p.tasks
  pub turn : 0 < p.tasks → next < p.tasks
  pub most : quiet ≤ p.tasks
  pub kept : (t : ℕ) → t < p.tasks → IsKeptTable p t store (table_at tables t)
  pub places : length starts ≡ p.tasks
  pub started : (t : ℕ) → t < p.tasks → IfSome (get_or starts t None) (IsTaskStart p t store)
  pub each : (t : ℕ) → t < p.tasks → HasPassed p.tasks next quiet t → IsQuietTable p t store (table_at tables t)

-- how far the store is from its limit, and then how many tasks may not be quiet
abbrev pub left : ProgramBodies → Interferences → ℕ → ℕ
left p store quiet = (store_limit p - store_height value_height store) * (p.tasks + 1) + (p.tasks - quiet)

-- the store ends a history, and each task is quiet
pub record HasEnded (p : ProgramBodies) (store : Interferences) (tables : List (List (Option State))) : Type 0 where
  pub program : IsProgram p
  pub earlier : List Interferences
  pub history : IsHistory stores passing p (store ∷ earlier)
  pub fits : FitsProgram p store
  pub count : length tables ≡ p.tasks
  pub each : (t : ℕ) → t < p.tasks → IsQuietTable p t store (table_at tables t)
