use Rattle.std.proofs.Common.{◌∙◌, sym, ap}
use Rattle.strided_dom.specs.Progression.{single}
use Rattle.std.specs.Prelude.{pos}
use Rattle.flow_graph.specs.declared.operations.Test.TheVariants.{Truth}
use Rattle.edge_effects.specs.calculations.transfer_rows.StateForms.{only_numbers}
use Rattle.edge_effects.specs.calculations.transfer_rows.Actions.{temporary, fixed, numbers_compare}
use Rattle.edge_effects.specs.calculations.transfer_rows.Rows.{after_filter}
use Rattle.edge_effects.specs.edge_actions.Edges.{around_of, filter_of}
use Rattle.edge_filters.proofs.Sides.{turned}
use Rattle.edge_filters.proofs.tests.where_true.Goals as goal

pub returns-then-pointers : goal.returns-then-pointers
returns-then-pointers c =
    c.in_ok-after.ensures
    ∙ ap (λ b. after_filter (around_of c.args.view.now) c.args.state.now (filter_of b (Truth c.args.holds c.args.value))) (sym c.if-pointers.true)

pub returns : goal.returns
returns c =
    let around = around_of c.args.view.now in
    c.in_ok-after-2.ensures
    ∙ ap (λ op. after_filter around c.args.state.now (numbers_compare op (temporary c.args.value) (fixed (only_numbers (single (pos 0)))))) (c.equality.ensures.value ∙ turned c.args.holds)
    ∙ ap (λ b. after_filter around c.args.state.now (filter_of b (Truth c.args.holds c.args.value))) (sym c.if-pointers.false)
