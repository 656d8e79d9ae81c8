-- A history of an analysis is one of its program.
use Rattle.std.specs.Prelude.{ℕ, ℤ, List, [], ◌∷◌}
use Rattle.tm_lattice.specs.declared.passers.Passer as passer
use Rattle.store_core.specs.Histories.{Event, Read, Publish, Past, May, IsLegal}
use Rattle.interfere_set.specs.Stores.{Interferences, no_interference}
use Rattle.program_solutions.specs.program_equations.Programs.{IsProgram}
use Rattle.program_solutions.specs.program_equations.Systems.{stores, FitsProgram, pass_of}
use Rattle.program_solutions.specs.program_equations.Solutions.{passing}
use Rattle.program_solutions.specs.program_systems.ReadPrograms.{ReadProgram, program_of}

-- what is asked of analyses whose tasks pass over one store
abbrev pub analysing : passer.Ghosts ReadProgram Interferences (List ℤ)
analysing = record {
  is_program = λ r. IsProgram (program_of r);
  task_count = λ r. r.tasks;
  marks_of = λ r. r.marks;
  least = λ r. no_interference;
  passed = λ r. pass_of (program_of r);
  fits = λ r. FitsProgram (program_of r);
}

module _ (r : ReadProgram) (workers : ℕ) where
  may_happen : (past : Past Interferences) (e : Event Interferences) → May stores analysing r workers past e
      → May stores passing (program_of r) workers past e
  may_happen past (Read worker task version) may = record {
    worker_exists = may.worker_exists;
    task_exists = may.task_exists;
    idle = may.idle;
    not_lent = may.not_lent;
    unsettled = may.unsettled;
    present = may.present;
  }
  may_happen past (Publish worker task version after added) may =
      let rises = may.rises in
      record { lent = may.lent; is_pass = may.is_pass; rises = record { cases = rises.cases } }

  pub legal_of : (past : Past Interferences) → IsLegal stores analysing r workers past
      → IsLegal stores passing (program_of r) workers past
  legal_of [] legal = tt
  legal_of (e ∷ past) legal = (may_happen past e legal.0, legal_of past legal.1)
