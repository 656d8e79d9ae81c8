-- The least solution of a program, and its report.
use Rattle.std.specs.Prelude.{List}
use Rattle.tm_terms.specs.declared.alarms.Alarm.{Alarm}
use Rattle.store_limits.specs.program_equations.Programs.{ProgramBodies}
use Rattle.store_limits.specs.program_equations.Solutions.{table_at, tables_of, IsPair, IsWholeLeast}
use Rattle.program_reports.specs.post_recheck.Pairs.{Pair, FitsPair}
use Rattle.program_reports.specs.Reports.{IsReport}

-- tables and a store that fit the program, are a solution of it, and lie below every solution
pub record IsLeastPair (p : ProgramBodies) (pair : Pair) : Type 0 where
  pub fits : FitsPair p pair
  pub solution : IsPair p pair.tables pair.store
  pub least : IsWholeLeast p (table_at pair.tables p.tasks) (tables_of pair.tables) pair.store

-- the report of the least solution
pub record IsLeastReport (p : ProgramBodies) (report : List Alarm) : Type 0 where
  pub pair : Pair
  pub least : IsLeastPair p pair
  pub exact : IsReport p (tables_of pair.tables) report
