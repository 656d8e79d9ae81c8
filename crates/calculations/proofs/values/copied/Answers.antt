use Rattle.calculations.proofs.Calculating.{copied_given}
use Rattle.calculations.proofs.values.copied.Goals as goal

pub returns : goal.returns
returns c =
    copied_given c.args.state.now _ c.args.source c.in_ok-value.ensures c.no_classes.ensures
