use Rattle.std.proofs.Common.{◌∙◌}
use Rattle.edge_effects.specs.calculations.transfer_rows.Actions.{temporary}
use Rattle.edge_effects.specs.edge_actions.Edges.{around_of}
use Rattle.edge_filters.proofs.Sides.{numbers_so}
use Rattle.edge_filters.proofs.tests.where_numbers.Goals as goal

pub returns : goal.returns
returns c =
    c.in_ok-after.ensures
    ∙ numbers_so (around_of c.args.view.now) c.args.state.now (temporary c.args.left) (temporary c.args.right) _ _ c.args.operator _ _
    c.numbers_of-of_left.ensures c.numbers_of-of_right.ensures c.numbers_assumed-sides.ensures.left c.numbers_assumed-sides.ensures.right
