use Rattle.std.proofs.Common.{◌≡◌, ◌∙◌, Some, sym, ap}
use Rattle.std.specs.FinMap.{get}
use Rattle.std.specs.Option.{option_copied}
use Rattle.edge_effects.specs.edge_actions.Edges.{around_of}
use Rattle.edge_effects.proofs.Common.{something}
use Rattle.edge_filters.proofs.Refined.{refined_absent, refined_nothing, refined_contradicted, refined_kept}
use Rattle.edge_filters.proofs.refining.after_refined.Goals as goal

pub returns-in_default : goal.returns-in_default
returns-in_default c =
    refined_absent (around_of c.args.view.now) c.args.state.now c.args.temp c.args.value (sym c.temp.ensures ∙ ap option_copied c.in_default.is)

pub returns-then-is_nothing : goal.returns-then-is_nothing
returns-then-is_nothing c =
    let stands : get c.args.state.now.temps c.args.temp ≡ Some c.in-Some.before.now = sym c.temp.ensures ∙ ap option_copied c.in-Some.is in
    refined_nothing (around_of c.args.view.now) c.args.state.now c.args.temp c.args.value c.in-Some.before.now stands (c.is_nothing.ensures.nothing.0 c.if-is_nothing.true)

pub returns-then-is_contradicted : goal.returns-then-is_contradicted
returns-then-is_contradicted c =
    let stands : get c.args.state.now.temps c.args.temp ≡ Some c.in-Some.before.now = sym c.temp.ensures ∙ ap option_copied c.in-Some.is in
    refined_contradicted (around_of c.args.view.now) c.args.state.now c.args.temp c.args.value c.in-Some.before.now stands
    (something c.is_nothing.result c.args.value c.is_nothing.ensures.nothing c.if-is_nothing.false)
    c.in_ok-after.after c.in_ok-after.ensures (sym c.is_contradicted.ensures ∙ c.if-is_contradicted.true)

pub returns : goal.returns
returns c =
    let stands : get c.args.state.now.temps c.args.temp ≡ Some c.in-Some.before.now = sym c.temp.ensures ∙ ap option_copied c.in-Some.is in
    refined_kept (around_of c.args.view.now) c.args.state.now c.args.temp c.args.value c.in-Some.before.now stands
    (something c.is_nothing.result c.args.value c.is_nothing.ensures.nothing c.if-is_nothing.false)
    c.in_ok-after.after c.in_ok-after.ensures (sym c.is_contradicted.ensures ∙ c.if-is_contradicted.false)
