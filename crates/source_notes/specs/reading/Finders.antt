-- What is found of a program.
use Rattle.std.specs.Prelude.{◌≡◌}
use Rattle.std.specs.Arc.{arc_value}
use Rattle.worker_solutions.specs.program_systems.ReadPrograms.{ReadProgram, program_of}
use Rattle.worker_solutions.specs.program_solutions.LeastReports.{IsLeastPair}
use Rattle.source_notes.specs.declared.finders.Found.{Found}

-- this analysis, and its least solution
pub record IsFound (analysis : ReadProgram) (found : Found) : Type 0 where
  pub same : arc_value found.analysis ≡ analysis
  pub least : IsLeastPair (program_of analysis) found.solution
