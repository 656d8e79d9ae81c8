use denote.Param.Send.{sendable}
use Rattle.shared_analyses.proofs.Analyses.{analysis_send, analysis_sync}
use Rattle.std.proofs.Common.{◌∙◌, ap, sym}
use Rattle.std.specs.Option.{option_copied}
use Rattle.program_solutions.specs.program_systems.ReadPrograms.{program_of}
use Rattle.worker_solutions.specs.QuietHistories.{present_store}
use Rattle.worker_solutions.proofs.EachTable.{if_ok_by, same_some, none_some}
use Rattle.worker_solutions.proofs.QuietCores.{kept_least}
use Rattle.worker_solutions.proofs.tables.kept_table.Goals as goal

pub returns : goal.returns
returns c =
    let core = c.args.core.now in
    let p = program_of core.program in
    let now = c.quiet_kept.ensures core.program core.workers c.args.task core.past (option_copied c.kept.result)
    c.history-history.ensures.legal c.requires.quiet c.requires.task c.kept.ensures in
    if_ok_by c.copied_table.result c.copied_table.ensures
    (λ table e. kept_least p c.args.task (present_store p core.past) c.in-Some.kept.now now.what
    (same_some c.in-Some.kept.now now.what (sym (ap option_copied c.in-Some.is) ∙ now.is)) now.made_is now.over
    table.items (e ∙ c.table.ensures))

pub unreachable-requires : goal.unreachable-requires
unreachable-requires c =
    let core = c.args.core.now in
    let now = c.quiet_kept.ensures core.program core.workers c.args.task core.past (option_copied c.kept.result)
    c.history-history.ensures.legal c.requires.quiet c.requires.task c.kept.ensures in
    none_some now.what (sym (ap option_copied c.in-None.is) ∙ now.is)

pub quiet_kept-requires-send-P : goal.quiet_kept-requires-send-P
quiet_kept-requires-send-P c κs = search (analysis_send, sendable) depth 20

pub quiet_kept-requires-sync-P : goal.quiet_kept-requires-sync-P
quiet_kept-requires-sync-P c κs = search (analysis_sync, sendable) depth 20

pub history-history-requires-send-P : goal.history-history-requires-send-P
history-history-requires-send-P c κs = search (analysis_send, sendable) depth 20

pub history-history-requires-sync-P : goal.history-history-requires-sync-P
history-history-requires-sync-P c κs = search (analysis_sync, sendable) depth 20

pub kept-requires-send-P : goal.kept-requires-send-P
kept-requires-send-P c κs = search (analysis_send, sendable) depth 20

pub kept-requires-sync-P : goal.kept-requires-sync-P
kept-requires-sync-P c κs = search (analysis_sync, sendable) depth 20
