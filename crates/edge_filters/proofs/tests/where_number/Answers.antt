use Rattle.std.proofs.Common.{◌∙◌, ap}
use Rattle.strided_dom.specs.Progression.{single}
use Rattle.strided_dom.proofs.Reach.{kept}
use Rattle.edge_effects.specs.calculations.transfer_rows.StateForms.{only_numbers}
use Rattle.edge_effects.specs.calculations.transfer_rows.Actions.{temporary, fixed}
use Rattle.edge_effects.specs.edge_actions.Edges.{around_of}
use Rattle.edge_filters.proofs.Sides.{numbers_so}
use Rattle.edge_filters.proofs.tests.where_number.Goals as goal

pub returns : goal.returns
returns c =
    let constant = only_numbers (single c.args.number) in
    c.in_ok-after.ensures constant
    ∙ numbers_so (around_of c.args.view.now) c.args.state.now (temporary c.args.left) (fixed constant) _ _ c.args.operator _ _
    c.numbers_of-of_left.ensures (c.one-constant.ensures ∙ ap single (kept c.requires.reach)) c.numbers_assumed-sides.ensures.left c.numbers_assumed-sides.ensures.right
