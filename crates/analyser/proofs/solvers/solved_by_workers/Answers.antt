use Rattle.std.proofs.Common.{sym, subst}
use Rattle.std.specs.Prelude.{string_bytes}
use Rattle.worker_solutions.specs.program_systems.ReadPrograms.{program_of}
use Rattle.worker_solutions.specs.program_solutions.LeastReports.{IsLeastReport}
use Rattle.analyser.proofs.AnswerLemmas.{if_ok_both}
use Rattle.analyser.proofs.HistoryLines.{quiet_lines}
use Rattle.analyser.proofs.solvers.solved_by_workers.Goals as goal

pub returns : goal.returns
returns g c =
    let out = c.in_ok-worked.ensures in
    let p = program_of c.args.analysis in
    let worked = c.in_ok-worked.worked in
    if_ok_both c.told_of.result c.told_of.ensures.report c.told_of.ensures.lines
    (λ solved e lines. (
      subst (λ r. IsLeastReport p r.alarms.items) (sym e) out.report,
      quiet_lines worked.core.past (string_bytes solved.history) p c.args.manner.workers out.history c.args.manner.history lines,
    ))
