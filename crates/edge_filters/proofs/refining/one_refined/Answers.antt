use Rattle.std.proofs.Common.{◌∙◌}
use Rattle.edge_effects.specs.calculations.transfer_rows.Actions.{temporary}
use Rattle.edge_effects.specs.calculations.transfer_rows.Rows.{side_refined}
use Rattle.edge_effects.specs.edge_actions.Edges.{around_of}
use Rattle.edge_effects.proofs.Common.{something}
use Rattle.edge_filters.proofs.Refined.{fixed_nothing, fixed_something}
use Rattle.edge_filters.proofs.refining.one_refined.Goals as goal

pub returns-then-is_nothing : goal.returns-then-is_nothing
returns-then-is_nothing c = λ constant.
    let around = around_of c.args.view.now in
    fixed_nothing around (side_refined around (temporary c.args.left) c.args.sides.0 c.args.state.now) constant c.args.sides.1 (c.is_nothing.ensures.nothing.0 c.if-is_nothing.true)

pub returns : goal.returns
returns c = λ constant.
    let around = around_of c.args.view.now in
    c.in_ok-after.ensures
    ∙ fixed_something around (side_refined around (temporary c.args.left) c.args.sides.0 c.args.state.now) constant c.args.sides.1
    (something c.is_nothing.result c.args.sides.1 c.is_nothing.ensures.nothing c.if-is_nothing.false)
