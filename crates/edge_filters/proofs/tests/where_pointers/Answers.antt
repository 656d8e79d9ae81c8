use Rattle.std.proofs.Common.{◌∙◌}
use Rattle.edge_effects.specs.calculations.transfer_rows.Actions.{temporary}
use Rattle.edge_effects.specs.edge_actions.Edges.{around_of}
use Rattle.edge_filters.proofs.Sides.{pointers_so}
use Rattle.edge_filters.proofs.tests.where_pointers.Goals as goal

pub returns : goal.returns
returns c =
    c.in_ok-after.ensures
    ∙ pointers_so (around_of c.args.view.now) c.args.state.now (temporary c.args.left) (temporary c.args.right) _ _ c.args.equal _ _
    c.pointers_of-of_left.ensures c.pointers_of-of_right.ensures c.in_ok-sides.ensures.left c.in_ok-sides.ensures.right
