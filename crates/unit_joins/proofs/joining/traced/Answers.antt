use Rattle.std.proofs.Common.{◌≡◌, Err, ap}
use Rattle.source_marks.specs.declared.origins.MarkFail.TheVariants.{Broken}
use Rattle.unit_joins.proofs.joining.traced.Goals as goal

pub returns-in-Err-Broken-clause-refused : goal.returns-in-Err-Broken-clause-refused
returns-in-Err-Broken-clause-refused c =
    let fail : c.in-Err-Broken.field-0 ≡ Broken c.in-Err-Broken.number = cc in
    c.in-Err-Broken.ensures.broken c.in-Err-Broken.number (ap (λ f. Err f) fail)
