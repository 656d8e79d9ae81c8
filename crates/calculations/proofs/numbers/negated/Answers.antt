use Rattle.calculations.proofs.Calculating.{negated_given}
use Rattle.calculations.proofs.numbers.negated.Goals as goal

pub returns : goal.returns
returns c =
    negated_given c.args.state.now _ c.args.of c.args.source c.negate-outcome.result.value c.numbers_of.result c.from_numbers.ensures c.numbers_of.ensures c.negate-outcome.ensures.value c.negate-outcome.ensures.classes
