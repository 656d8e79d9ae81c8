use Rattle.calculations.proofs.Calculating.{operated_given}
use Rattle.calculations.proofs.numbers.operated.Goals as goal

pub returns : goal.returns
returns c =
    operated_given c.args.state.now _ c.args.operator c.args.of c.args.left c.args.right c.binary-outcome.result.value c.numbers_of.result c.numbers_of-2.result c.from_numbers.ensures c.numbers_of.ensures c.numbers_of-2.ensures c.binary-outcome.ensures.value c.binary-outcome.ensures.classes
