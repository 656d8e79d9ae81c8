use Rattle.std.specs.Prelude.{[]}
use Rattle.program_solutions.specs.tm_laid.declared.scales.Scale.TheVariants as Scales
use Rattle.program_solutions.specs.tm_laid.Layouts.{laid_tree}
use Rattle.source_findings.proofs.Solved.{if_ok_by}
use Rattle.certificate_check.proofs.Sourced.{few_objects}
use Rattle.source_findings.proofs.Told.{told}
use Rattle.source_findings.proofs.findings.finding_of.Goals as goal

pub returns-in_ok-found-in-Ok : goal.returns-in_ok-found-in-Ok
returns-in_ok-found-in-Ok c =
    let of = c.in_ok-analysis-in-Ok.ensures in
    let bytes = c.args.bytes.now in
    let a = c.in-Ok.ensures.accepted _ of in
    let few = few_objects Scales.Usual [] bytes _ a (laid_tree c.in-Ok.program.laid) of.laid c.in-Ok.ensures.numbered in
    if_ok_by c.told_of.result c.told_of.ensures
    (λ reply t. told bytes _ a few _ c.in_ok-found-in-Ok.ensures c.args.finding reply.status reply.text.items t)
