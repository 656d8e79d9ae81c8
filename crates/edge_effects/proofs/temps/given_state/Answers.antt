use Rattle.std.proofs.Common.{◌∙◌, ap, refl, Some}
use Rattle.edge_actions.specs.Edges.{around_of}
use Rattle.std.specs.FinMap.{retain_keys}
use Rattle.calculations.specs.transfer_rows.Accesses.{is_among}
use Rattle.edge_effects.proofs.Common.{something}
use Rattle.edge_effects.proofs.LiveTemps.{given_nothing, given_something, none_dropped}
use Rattle.edge_effects.proofs.temps.given_state.Goals as goal

pub returns-then-is_nothing : goal.returns-then-is_nothing
returns-then-is_nothing c = given_nothing (around_of c.args.view.now) c.args.state.now c.args.target c.args.value c.args.copy (c.is_nothing.ensures.nothing.0 c.if-is_nothing.true)

pub returns : goal.returns
returns c =
    let s = c.args.state.now in
    let live = is_among c.args.view.now.live.now in
    ap Some c.in_ok-after.ensures
    ∙ given_something (around_of c.args.view.now) s c.args.target c.args.value c.args.copy c.in_ok-temps.temps s.cells
    (something c.is_nothing.result c.args.value c.is_nothing.ensures.nothing c.if-is_nothing.false)
    (c.in_ok-temps.ensures s.temps (c.in_ok-kept.ensures ∙ ap (λ t. retain_keys t live) (none_dropped s.temps))) refl
