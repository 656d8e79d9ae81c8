-- A source has one report.
use Rattle.std.proofs.Common.{subst}
use Rattle.worker_solutions.specs.tm_laid.declared.scales.Scale.TheVariants as Scales
use Rattle.worker_solutions.specs.program_equations.Programs.{ProgramBodies}
use Rattle.worker_solutions.specs.program_solutions.LeastReports.{IsLeastReport}
use Rattle.worker_solutions.proofs.low.program_solutions.OneReport.{one_least_report}
use Rattle.source_replays.proofs.low.source_programs.Accepted.{accepted_is_program}
use Rattle.source_replays.proofs.low.source_programs.OneSource.{one_program}
use Rattle.analyser.specs.Laws.{OneReport}

pub one_report : OneReport
one_report given bytes a b h k =
    one_least_report k.program a b (accepted_is_program Scales.Usual given bytes k.program k.accepted)
    (subst (λ (p : ProgramBodies). IsLeastReport p a)
    (one_program Scales.Usual Scales.Usual given bytes h.program k.program h.accepted k.accepted) h.least) k.least
