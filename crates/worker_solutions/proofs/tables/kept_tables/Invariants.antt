use Rattle.std.proofs.Common.{◌≡◌, ℕ, ◌<◌, length}
use Rattle.program_solutions.specs.program_systems.ReadPrograms.{program_of}
use Rattle.program_solutions.specs.thread_pass.Analyses.{IsLeastTable}
use Rattle.program_solutions.specs.program_equations.Solutions.{table_at}
use Rattle.program_solutions.specs.post_recheck.Pairs.{lists_of}
use Rattle.worker_solutions.specs.QuietHistories.{present_store}
use Rattle.worker_solutions.proofs.tables.kept_tables.Given as goal

-- the tables so far
abbrev pub invariant-tasks : goal.invariant-tasks
invariant-tasks l =
    record {
      count : length l.tables.items ≡ l.task;
      each : (t : ℕ) → t < l.task → IsLeastTable (program_of l.core.program) t
          (present_store (program_of l.core.program) l.core.past) (table_at (lists_of l.tables.items) t);
    }
