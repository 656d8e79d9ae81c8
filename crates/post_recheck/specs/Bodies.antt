-- What the check of one body finds, and what those of all bodies find together.
use Rattle.std.specs.Prelude.{◌≡◌, ℕ, ◌<◌, nat_lt, cond, List, length, get_or, Option, None, IfOk}
use Rattle.std.specs.declared.result.Result.{Result}
use Rattle.mutex_configs.specs.declared.programs.Program.{Program}
use Rattle.tm_lattice.specs.declared.memory.NoMemory.{NoMemory}
use Rattle.interfere_set.specs.Stores.{Interferences, no_interference}
use Rattle.shared_programs.specs.transfer_rows.StateForms.{State}
use Rattle.table_covers.specs.declared.covers.Uncovered.{Uncovered}
use Rattle.table_covers.specs.Solutions.{IsFirstUncovered}
use Rattle.shared_programs.specs.program_equations.Programs.{ProgramBodies, body_at}
use Rattle.shared_programs.specs.program_equations.Systems.{states, FitsBody, task_entry, added_at}
use Rattle.shared_programs.specs.program_equations.Solutions.{table_at, tables_of, system_at, IsSolvedAt, edge_number}
use Rattle.shared_programs.specs.program_systems.Analysable.{IsAnalysable}
use Rattle.shared_programs.specs.program_systems.ProgramFacts.{AllFacts, AreProgramFacts, program_with}
use Rattle.post_recheck.specs.Pairs.{Pair, FitsPair}
use Rattle.post_recheck.specs.declared.bodies.BodyCheck.{BodyCheck}
use Rattle.post_recheck.specs.declared.bodies.BodyCheck.TheVariants as Bodies

-- ## One body

module _ (p : ProgramBodies) (pair : Pair) where
  -- the number of the first edge that is not covered
  pub record IsUncoveredIn (t edge : ℕ) : Type 0 where
    pub first : Uncovered
    pub is : IsFirstUncovered states (FitsBody (body_at p t)) (system_at p pair.tables pair.store t)
        (tables_of pair.tables t) first
    pub number : edge ≡ edge_number p pair.tables pair.store (body_at p t) first

  -- what the edges of a task contribute; nothing where it is the initial section
  abbrev pub contributed_at : ℕ → Interferences
  contributed_at t = cond (nat_lt t p.tasks) (added_at p t (tables_of pair.tables t)) no_interference

  -- each edge is covered, and this is what they contribute
  pub record IsCoveredIn (t : ℕ) (added : Interferences) : Type 0 where
    pub solved : IsSolvedAt p pair.tables pair.store t
    pub contributed : added ≡ contributed_at t

  abbrev pub IsBodyCheck : ℕ → BodyCheck → Type 0
  IsBodyCheck t (Bodies.Uncovered edge) = IsUncoveredIn t edge
  IsBodyCheck t (Bodies.Covered added) = IsCoveredIn t added

  -- the state at the entry of each task, after the given table of the initial section
  pub record AreEntries (entries : List (Option State)) : Type 0 where
    pub count : length entries ≡ p.tasks
    pub each : (t : ℕ) → t < length entries
        → get_or entries t None ≡ task_entry p (table_at pair.tables p.tasks) t

  -- for each body its check, or that there was no memory for it
  pub record AreChecked (checks : List (Result BodyCheck NoMemory)) : Type 0 where
    pub count : length checks ≡ length p.bodies
    pub each : (t : ℕ) (none : Result BodyCheck NoMemory) → t < length checks
        → IfOk (get_or checks t none) (IsBodyCheck t)

-- what the check of a body is given: a program that can be analysed, with its facts, a pair that fits and the entries
pub record IsGiven (program : Program) (facts : AllFacts) (pair : Pair) (entries : List (Option State)) : Type 0 where
  pub analysable : IsAnalysable program
  pub computed : AreProgramFacts program facts
  pub fits : FitsPair (program_with program facts) pair
  pub begins : AreEntries (program_with program facts) pair entries
