use Rattle.std.proofs.Common.{◌∙◌, ap}
use Rattle.transfer_rows.specs.StateForms.{only_numbers}
use Rattle.calculations.proofs.Calculating.{numbers_left, numbers_right}
use Rattle.calculations.proofs.comparisons.numbers_assumed.Goals as goal

pub returns-clause-left : goal.returns-clause-left
returns-clause-left c =
    c.from_numbers.ensures ∙ ap only_numbers (numbers_left c.args.operator c.args.left.now c.args.right.now c.assume-left.result.0 c.assume-left.result.1 c.assume-left.ensures)

pub returns-clause-right : goal.returns-clause-right
returns-clause-right c =
    c.from_numbers-2.ensures ∙ ap only_numbers (numbers_right c.args.operator c.args.left.now c.args.right.now c.assume-left.result.0 c.assume-left.result.1 c.assume-left.ensures)
