use denote.Param.Send.{sendable}
use Rattle.worker_solutions.proofs.low.shared_analyses.Analyses.{analysis_send, analysis_sync}
use Rattle.std.proofs.Common.{ap, ◌∙◌}
use Rattle.std.specs.Prelude.{string_bytes}
use Rattle.history_lines.specs.HistoryTexts.{history_text}
use Rattle.source_findings.proofs.Solved.{if_ok_by}
use Rattle.analyser.proofs.HistoryLines.{asked_lines, no_lines}
use Rattle.analyser.proofs.solvers.lines_of.Goals as goal

pub returns-then-history : goal.returns-then-history
returns-then-history c =
    if_ok_by c.history_lines.result c.history_lines.ensures
    (λ text e. asked_lines c.args.core.now.past (string_bytes text) c.args.history c.if-history.true
    (e ∙ ap history_text c.history.ensures.past))

pub returns-else-history : goal.returns-else-history
returns-else-history c =
    no_lines c.args.core.now.past (string_bytes c.new.result) c.args.history c.if-history.false c.new.ensures.bytes

pub history-requires-send-P : goal.history-requires-send-P
history-requires-send-P c κs = search (analysis_send, sendable) depth 20

pub history-requires-sync-P : goal.history-requires-sync-P
history-requires-sync-P c κs = search (analysis_sync, sendable) depth 20

pub history_lines-requires-send-P : goal.history_lines-requires-send-P
history_lines-requires-send-P c κs = search (analysis_send, sendable) depth 20

pub history_lines-requires-sync-P : goal.history_lines-requires-sync-P
history_lines-requires-sync-P c κs = search (analysis_sync, sendable) depth 20
