use Rattle.std.proofs.Common.{[]}
use Rattle.mutex_configs.specs.tm_laid.declared.scales.Scale.TheVariants as Scales
use Rattle.mutex_configs.specs.tm_laid.Layouts.{laid_tree}
use Rattle.certificate_check.proofs.InBytes.{source_at}
use Rattle.certificate_check.proofs.Sourced.{few_objects}
use Rattle.certificate_check.proofs.Told.{if_ok_by, told_verdict}
use Rattle.certificate_check.proofs.checks.verdict_on_source.Goals as goal

pub returns-in-Ok : goal.returns-in-Ok
returns-in-Ok c =
    let bytes = c.args.bytes.items in
    let program = c.in-Ok.program in
    let has = source_at bytes c.deref.result.now c.args.start c.args.end c.deref.ensures.value c.requires.split in
    if_ok_by c.verdict_on_told.result c.verdict_on_told.ensures
    (λ v h.
    let of = h.of in
    let a = c.in-Ok.ensures.accepted h.bodies of in
    let few = few_objects Scales.Usual [] _ h.bodies a (laid_tree program.laid) of.laid c.in-Ok.ensures.numbered in
    told_verdict bytes _ _ c.requires.short has h.bodies a h.small few v h.is)

pub returns-in-Err-Refused : goal.returns-in-Err-Refused
returns-in-Err-Refused c =
    rw c.in-Err-Refused.refusal-is (
      c.requires.short,
      record {
        source = _;
        told = _;
        has = source_at c.args.bytes.items c.deref.result.now c.args.start c.args.end c.deref.ensures.value
            c.requires.split;
        refused = rw c.in-Err-Refused.field-0-is at c.in-Err-Refused.ensures.refused;
      },
    )
