-- Each error that occurs in a run of the program of a source stands in the report of its least solution.
use Rattle.std.specs.Prelude.{ℕ, ◌≤◌, ◌^◌, List, length}
use Rattle.tm_terms.specs.declared.alarms.Alarm.{Alarm}
use Rattle.worker_solutions.specs.tm_laid.declared.scales.Scale.TheVariants as Scales
use Rattle.worker_solutions.specs.program_equations.Programs.{ProgramBodies}
use Rattle.worker_solutions.specs.program_solutions.LeastReports.{IsLeastReport}
use Rattle.source_replays.specs.source_programs.Sources.{IsAccepted}
use Rattle.source_findings.proofs.low.certificate_check.Sourced.{lists_all as solution_lists_all}
use Rattle.source_findings.specs.sound_core.Soundness.{ListsAll}

module _ (given bytes : List ℕ) (p : ProgramBodies) (a : IsAccepted given bytes p) where
  pub lists_all : length a.laid.objects ≤ 2 ^ 32 → (report : List Alarm) → IsLeastReport p report
      → ListsAll a.laid report
  lists_all few report h =
      let pair = h.pair in
      let least = h.least in
      solution_lists_all Scales.Usual given bytes p a few pair.tables pair.store least.solution report h.exact
