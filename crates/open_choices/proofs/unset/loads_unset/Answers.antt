use Rattle.std.proofs.Common.{◌∙◌}
use Rattle.operand_orders.specs.reading.Views.{solved}
use Rattle.open_choices.proofs.Unsets.{loads, same_test}
use Rattle.open_choices.proofs.unset.loads_unset.Goals as goal

pub returns : goal.returns
returns c =
    same_test c.finds_one.result c.finds_one.ensures
    (loads (solved c.args.view) c.args.state.now c.args.scalar c.args.address c.as_slice.result.now
    (c.as_slice.ensures ∙ c.in_ok-targets.ensures) c.args.edge)
