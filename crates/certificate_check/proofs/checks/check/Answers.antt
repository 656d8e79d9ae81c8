use Rattle.std.proofs.Common.{◌≤◌, ◌+◌, ◌∙◌, length, sym, subst}
use Rattle.certificate_texts.specs.Limits.{certificate_limit}
use Rattle.certificate_texts.specs.Certificates.{IsSplit, head_text}
use Rattle.certificate_check.specs.Verdicts.{no_source}
use Rattle.certificate_check.proofs.InBytes.{split_by}
use Rattle.certificate_check.proofs.checks.check.Goals as goal

pub returns-in-None : goal.returns-in-None
returns-in-None c =
    let bytes = c.args.bytes.items in
    let short : length bytes ≤ certificate_limit =
    subst (λ n. n ≤ certificate_limit) (c.len.ensures ∙ c.args.bytes.ok.0) c.if-len-gt-CERTIFICATE_LIMIT.false in (
      short,
      no_source (λ source told has.
          let front = length (head_text (length source)) in
          c.in-None.ensures front (front + length source)
          (subst (λ text. IsSplit text front (front + length source)) (sym c.deref.ensures.value)
          (split_by bytes source told has))),
    )
