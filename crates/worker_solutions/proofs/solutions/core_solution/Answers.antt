use denote.Param.Send.{sendable}
use Rattle.shared_analyses.proofs.Analyses.{analysis_send, analysis_sync}
use Rattle.std.proofs.Common.{◌∙◌, subst, sym}
use Rattle.std.proofs.lemmas.List.{length-map}
use Rattle.std.specs.Arc.{arc_value}
use Rattle.program_solutions.specs.program_systems.ReadPrograms.{program_of}
use Rattle.program_solutions.specs.post_recheck.Pairs.{lists_of, pair_of}
use Rattle.program_solutions.specs.Tables.{AreCompleted, AreLeastTables}
use Rattle.worker_solutions.proofs.Legal.{legal_of}
use Rattle.worker_solutions.proofs.QuietCores.{least_over}
use Rattle.worker_solutions.proofs.solutions.core_solution.Goals as goal

pub least_pair-requires : goal.least_pair-requires
least_pair-requires c =
    let core = c.args.core.now in
    let same = c.deref.ensures ∙ c.program-analysis.ensures.value in
    let count = length-map c.in_ok-tables.tables.items _ ∙ c.in_ok-tables.ensures.count in
    let all = subst (λ r. AreCompleted (program_of r) (lists_of c.in_ok-tables.tables.items)
    (lists_of c.in_ok-all.all.items)) same c.in_ok-all.ensures in
    let store = c.in_ok-store.ensures.ok ∙ c.in_ok-copied.ensures ∙ c.store.ensures in
    let is = c.program-analysis.ensures.program in
    let again = c.deref-2.ensures ∙ c.program-analysis.ensures.value in
    let least = least_over (program_of core.program) is core.workers core.past
    (legal_of core.program core.workers core.past c.history-history.ensures.legal) c.requires
    (lists_of c.in_ok-tables.tables.items) (lists_of c.in_ok-all.all.items) count c.in_ok-tables.ensures.least
    all (arc_value c.in_ok-store.store) store in
    subst (λ r. AreLeastTables (program_of r) (pair_of c.in_ok-all.all.items (arc_value c.in_ok-store.store)))
    (sym again) least

pub history-history-requires-send-P : goal.history-history-requires-send-P
history-history-requires-send-P c κs = search (analysis_send, sendable) depth 20

pub history-history-requires-sync-P : goal.history-history-requires-sync-P
history-history-requires-sync-P c κs = search (analysis_sync, sendable) depth 20

pub program-analysis-requires-send-P : goal.program-analysis-requires-send-P
program-analysis-requires-send-P c κs = search (analysis_send, sendable) depth 20

pub program-analysis-requires-sync-P : goal.program-analysis-requires-sync-P
program-analysis-requires-sync-P c κs = search (analysis_sync, sendable) depth 20

pub store-requires-send-P : goal.store-requires-send-P
store-requires-send-P c κs = search (analysis_send, sendable) depth 20

pub store-requires-sync-P : goal.store-requires-sync-P
store-requires-sync-P c κs = search (analysis_sync, sendable) depth 20
