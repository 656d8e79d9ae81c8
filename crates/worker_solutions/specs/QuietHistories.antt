-- The histories of a program's workers.
use Rattle.std.specs.Prelude.{ℕ}
use Rattle.store_core.specs.Histories.{Past, store_of, IsLegal, IsQuiet}
use Rattle.interfere_set.specs.Stores.{Interferences}
use Rattle.program_solutions.specs.program_equations.Programs.{ProgramBodies}
use Rattle.program_solutions.specs.program_equations.Systems.{stores}
use Rattle.program_solutions.specs.program_equations.Solutions.{passing}

-- the store behind a history
abbrev pub present_store : ProgramBodies → Past Interferences → Interferences
present_store p past = store_of stores passing p past

-- a legal history of so many workers on a program, at whose end every task is settled and none is lent
pub record IsQuietHistory (p : ProgramBodies) (workers : ℕ) (past : Past Interferences) : Type 0 where
  pub legal : IsLegal stores passing p workers past
  pub quiet : IsQuiet p.tasks past
