use Rattle.std.proofs.Common.{◌∙◌, sym, ap, subst}
use Rattle.strided_dom.specs.Progression.{single}
use Rattle.strided_dom.proofs.Reach.{kept}
use Rattle.edge_effects.specs.calculations.transfer_rows.StateForms.{only_numbers}
use Rattle.edge_effects.specs.calculations.transfer_rows.Actions.{temporary, fixed, numbers_compare}
use Rattle.edge_effects.specs.calculations.transfer_rows.Rows.{after_filter}
use Rattle.edge_effects.specs.edge_actions.Edges.{around_of, filter_of}
use Rattle.edge_filters.specs.Tests.{IsTestable}
use Rattle.edge_filters.proofs.tests.let_through.Goals as goal

pub returns-in_ok-after-in-Case : goal.returns-in_ok-after-in-Case
returns-in_ok-after-in-Case c =
    let around = around_of c.args.view.now in
    let s = c.args.state.now in
    let side = temporary c.in-Case.value in
    let reach = subst IsTestable c.in-Case.is c.requires in
    c.in_ok-after-in-Case.ensures
    ∙ ap (λ n. after_filter around s (numbers_compare c.equality.result side (fixed (only_numbers (single n))))) (kept reach)
    ∙ ap (λ op. after_filter around s (numbers_compare op side (fixed (only_numbers (single c.in-Case.label))))) c.equality.ensures.value
    ∙ ap (λ t. after_filter around s (filter_of c.args.view.now.tests_pointer t)) (sym c.in-Case.is)
