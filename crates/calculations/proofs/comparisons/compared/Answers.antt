use Rattle.calculations.proofs.Calculating.{compared_given}
use Rattle.calculations.proofs.comparisons.compared.Goals as goal

pub returns : goal.returns
returns c =
    compared_given c.args.state.now _ c.args.equal c.args.left c.args.right c.equality-truths.result c.pointers_of.result.now c.pointers_of-2.result.now c.from_numbers.ensures c.pointers_of.ensures c.pointers_of-2.ensures c.equality-truths.ensures c.no_classes.ensures
