use denote.Param.Send.{sendable}
use Rattle.shared_analyses.proofs.Analyses.{analysis_send, analysis_sync}
use Rattle.std.proofs.Common.{◌∙◌, subst}
use Rattle.program_solutions.specs.program_systems.ReadPrograms.{program_of}
use Rattle.worker_solutions.specs.QuietHistories.{IsQuietHistory}
use Rattle.worker_solutions.proofs.Legal.{legal_of}
use Rattle.worker_solutions.proofs.reports.report_by_workers.Goals as goal

pub history-history-requires-send-P : goal.history-history-requires-send-P
history-history-requires-send-P g c κs = search (analysis_send, sendable) depth 20

pub history-history-requires-sync-P : goal.history-history-requires-sync-P
history-history-requires-sync-P g c κs = search (analysis_sync, sendable) depth 20

pub returns-clause-history : goal.returns-clause-history
returns-clause-history g c =
    let core = c.in_ok-core.core in
    let same = c.in_ok-core.ensures.program ∙ c.in_ok-new.ensures.ok in
    let history : IsQuietHistory (program_of core.program) core.workers core.past = record {
      legal = legal_of core.program core.workers core.past c.history-history.ensures.legal;
      quiet = c.in_ok-core.ensures.quiet;
    } in
    subst (λ r. IsQuietHistory (program_of r) c.args.workers core.past) same
    (subst (λ w. IsQuietHistory (program_of core.program) w core.past) c.in_ok-core.ensures.workers history)
