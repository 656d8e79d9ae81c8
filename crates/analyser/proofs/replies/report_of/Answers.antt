use Rattle.worker_solutions.specs.tm_laid.declared.scales.Scale.TheVariants as Scales
use Rattle.worker_solutions.specs.tm_laid.Layouts.{laid_tree}
use Rattle.source_findings.proofs.low.certificate_check.Sourced.{few_objects}
use Rattle.analyser.proofs.Sound.{lists_all}
use Rattle.analyser.proofs.replies.report_of.Goals as goal

pub returns-in_ok-found-in-Ok : goal.returns-in_ok-found-in-Ok
returns-in_ok-found-in-Ok g c =
    let of = c.in_ok-analysis-in-Ok.ensures in
    let given = c.args.given.now in
    let bytes = c.args.bytes.now in
    let a = c.in-Ok.ensures.accepted _ of in
    let solved = c.in_ok-found-in-Ok.found in
    let report = solved.report.alarms.items in
    let is = c.in_ok-found-in-Ok.ensures in
    let few =
    few_objects Scales.Usual given bytes _ a (laid_tree c.in-Ok.program.laid) of.laid c.in-Ok.ensures.numbered in
    (record { program = _; accepted = a; least = is.0; lists = lists_all given bytes _ a few report is.0 }, is.1)

pub returns-in-Err-Refused : goal.returns-in-Err-Refused
returns-in-Err-Refused g c =
    rw c.in-Err-Refused.refusal-is (rw c.in-Err-Refused.field-0-is at c.in-Err-Refused.ensures.refused)
