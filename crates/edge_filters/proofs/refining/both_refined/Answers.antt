use Rattle.std.proofs.Common.{◌∙◌, sym, ap}
use Rattle.edge_effects.specs.calculations.transfer_rows.Actions.{temporary}
use Rattle.edge_effects.specs.calculations.transfer_rows.Rows.{then_refined}
use Rattle.edge_effects.specs.edge_actions.Edges.{around_of}
use Rattle.edge_filters.proofs.refining.both_refined.Goals as goal

pub returns-in_default : goal.returns-in_default
returns-in_default c =
    ap (then_refined (around_of c.args.view.now) (temporary c.args.right) c.args.sides.1) (sym c.in_default.is ∙ c.in_ok-before.ensures)

pub returns : goal.returns
returns c =
    c.in_ok-after.ensures
    ∙ ap (then_refined (around_of c.args.view.now) (temporary c.args.right) c.args.sides.1) (sym c.in-Some.is ∙ c.in_ok-before.ensures)
