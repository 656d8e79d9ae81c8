use Rattle.calculations.proofs.Calculating.{converted_given}
use Rattle.calculations.proofs.numbers.converted.Goals as goal

pub returns : goal.returns
returns c =
    converted_given c.args.state.now _ c.args.of c.args.source c.converted-numbers.result c.numbers_of.result c.from_numbers.ensures c.numbers_of.ensures c.converted-numbers.ensures c.no_classes.ensures
