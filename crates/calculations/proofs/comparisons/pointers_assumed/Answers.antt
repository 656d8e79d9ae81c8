use Rattle.std.proofs.Common.{◌∙◌, ap}
use Rattle.transfer_rows.specs.StateForms.{only_pointers}
use Rattle.transfer_rows.proofs.low.operator_values.OneAnswer.{one_assumed}
use Rattle.calculations.proofs.comparisons.pointers_assumed.Goals as goal

pub returns-clause-left : goal.returns-clause-left
returns-clause-left c =
    let one = one_assumed c.args.equal c.args.left.now c.args.right.now c.in_ok-left.left c.in_ok-left.right c.objects.ensures.within c.objects-2.ensures.within c.objects-3.ensures.within c.objects-4.ensures.within c.in_ok-left.ensures in
    c.from_pointers.ensures ∙ ap only_pointers one.0

pub returns-clause-right : goal.returns-clause-right
returns-clause-right c =
    let one = one_assumed c.args.equal c.args.left.now c.args.right.now c.in_ok-left.left c.in_ok-left.right c.objects.ensures.within c.objects-2.ensures.within c.objects-3.ensures.within c.objects-4.ensures.within c.in_ok-left.ensures in
    c.from_pointers-2.ensures ∙ ap only_pointers one.1
