use Rattle.std.proofs.Common.{◌∙◌, ap}
use Rattle.std.specs.Option.{option_map}
use Rattle.edge_effects.specs.calculations.transfer_rows.Rows.{arrived}
use Rattle.edge_effects.specs.edge_actions.Edges.{around_of, filter_of}
use Rattle.edge_filters.proofs.FilterEdges.{filter_is}
use Rattle.edge_filters.proofs.Sides.{no_test_fails}
use Rattle.edge_filters.proofs.tests.refine.Goals as goal

pub returns : goal.returns
returns c = λ store.
    let around = around_of c.args.view.now in
    let pointers = c.args.view.now.tests_pointer in
    filter_is around c.args.state.now store c.plain.result (filter_of pointers c.args.test)
    (c.plain.ensures.state ∙ c.in_ok-arrived.ensures ∙ ap (option_map (arrived around)) c.in_ok-through.ensures) c.plain.ensures.added c.plain.ensures.targets
    (λ class. no_test_fails pointers c.args.test c.args.state.now c.plain.result.classes class (c.plain.ensures.classes ∙ c.no_classes.ensures))
