use Rattle.calculations.proofs.Calculating.{complemented_given}
use Rattle.calculations.proofs.numbers.complemented.Goals as goal

pub returns : goal.returns
returns c =
    complemented_given c.args.state.now _ c.args.of c.args.source c.invert-inverted.result c.numbers_of.result c.from_numbers.ensures c.numbers_of.ensures c.invert-inverted.ensures c.no_classes.ensures
