use denote.Param.Send.{sendable}
use Rattle.shared_analyses.proofs.Analyses.{analysis_send, analysis_sync}
use Rattle.std.proofs.Common.{◌∙◌, subst, sym}
use Rattle.program_solutions.specs.program_systems.ReadPrograms.{program_of}
use Rattle.program_solutions.specs.LeastReports.{IsLeastPair, IsLeastReport}
use Rattle.worker_solutions.proofs.EachTable.{if_ok_by}
use Rattle.worker_solutions.proofs.reports.core_report.Goals as goal

pub solution_report-requires : goal.solution_report-requires
solution_report-requires c =
    subst (λ r. IsLeastPair (program_of r) c.in_ok-found.found) (sym (c.deref.ensures ∙ c.program.ensures.value))
    c.in_ok-found.ensures

pub returns : goal.returns
returns c =
    if_ok_by c.solution_report.result c.solution_report.ensures
    (λ report least. subst (λ r. IsLeastReport (program_of r) report.alarms.items)
    (c.deref.ensures ∙ c.program.ensures.value) least)

pub program-requires-send-P : goal.program-requires-send-P
program-requires-send-P c κs = search (analysis_send, sendable) depth 20

pub program-requires-sync-P : goal.program-requires-sync-P
program-requires-sync-P c κs = search (analysis_sync, sendable) depth 20
