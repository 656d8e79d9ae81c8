use Rattle.edge_effects.proofs.low.operator_values.OneAnswer.{one_meet}
use Rattle.edge_filters.proofs.refining.met_value.Goals as goal

pub returns : goal.returns
returns c =
    one_meet c.args.own.now c.args.left.now c.in_ok-met.met c.is_nothing-own.ensures.value c.is_nothing-left.ensures.value c.is_nothing-met.ensures.value c.in_ok-met.ensures
