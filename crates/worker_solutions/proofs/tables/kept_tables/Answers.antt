use denote.Param.Send.{sendable}
use Rattle.shared_analyses.proofs.Analyses.{analysis_send, analysis_sync}
use Rattle.std.proofs.Common.{◌+◌, ◌∙◌, ap, length}
use Rattle.std.proofs.lemmas.List.{length-append}
use Rattle.program_solutions.specs.program_systems.ReadPrograms.{program_of}
use Rattle.program_solutions.specs.thread_pass.Analyses.{IsLeastTable}
use Rattle.worker_solutions.specs.QuietHistories.{present_store}
use Rattle.worker_solutions.proofs.EachTable.{each_table}
use Rattle.worker_solutions.proofs.tables.kept_tables.Goals as goal

pub tasks-preserved : goal.tasks-preserved
tasks-preserved c =
    let core = c.args.core.now in
    let p = program_of core.program in
    let past = c.tasks.invariant in
    record {
      count = ap length c.in_ok-push.ensures.items ∙ length-append _ _ ∙ ap (λ n. n + 1) past.count;
      each = each_table (λ t. IsLeastTable p t (present_store p core.past)) c.tasks.tables.items _ _ c.tasks.task
          c.in_ok-push.ensures.items past.count past.each c.in_ok-kept_table.ensures;
    }

pub program-requires-send-P : goal.program-requires-send-P
program-requires-send-P c κs = search (analysis_send, sendable) depth 20

pub program-requires-sync-P : goal.program-requires-sync-P
program-requires-sync-P c κs = search (analysis_sync, sendable) depth 20
