use Rattle.std.proofs.Common.{◌∙◌}
use Rattle.edge_effects.specs.calculations.transfer_rows.StateForms.{only_pointers}
use Rattle.edge_effects.specs.calculations.transfer_rows.Actions.{temporary, fixed}
use Rattle.edge_effects.specs.edge_actions.Edges.{around_of, only_null}
use Rattle.edge_filters.proofs.Sides.{pointers_so}
use Rattle.edge_filters.proofs.tests.where_null.Goals as goal

pub returns : goal.returns
returns c =
    let constant = only_pointers only_null in
    c.in_ok-after.ensures constant
    ∙ pointers_so (around_of c.args.view.now) c.args.state.now (temporary c.args.left) (fixed constant) _ _ c.args.equal _ _
    c.pointers_of-of_left.ensures c.null-constant.ensures c.in_ok-sides.ensures.left c.in_ok-sides.ensures.right
