-- On the usual scale a refusal has the text of the commands.
use Rattle.std.proofs.Common.{◌≡◌, refl, Option, Some, None}
use Rattle.tm_terms.specs.declared.refusals.Limit.{Limit}
use Rattle.tm_terms.specs.Texts.{refused_line}
use Rattle.tm_laid.specs.declared.scales.Scale.TheVariants as Scales
use Rattle.source_findings.specs.RefusalTexts.{refused_line_on, UsualRefusalsAreToldAlike}

pub usual_refusals_are_told_alike : UsualRefusalsAreToldAlike
usual_refusals_are_told_alike refusal = by refusal.limit
  where
    by : (limit : Option Limit) → refused_line_on Scales.Usual refusal.place refusal.kind limit
        ≡ refused_line refusal.place refusal.kind limit
    by None = refl
    by (Some limit) = refl
