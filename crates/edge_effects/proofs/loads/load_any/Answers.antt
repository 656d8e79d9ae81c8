use Rattle.std.proofs.Common.{◌∙◌, ap, refl}
use Rattle.std.specs.Option.{option_map}
use Rattle.tm_laid.specs.Layouts.{laid_tree}
use Rattle.calculations.specs.transfer_rows.Rows.{arrived, after_load_any}
use Rattle.edge_actions.specs.Layouts.{spots_of, open_value}
use Rattle.edge_actions.specs.Edges.{around_of}
use Rattle.edge_effects.proofs.Effects.{load_any_is}
use Rattle.edge_effects.proofs.loads.load_any.Goals as goal

pub returns : goal.returns
returns c = λ store.
    let around = around_of c.args.view.now in
    let s = c.args.state.now in
    let slice = c.as_slice-cells.ensures in
    let xs = c.in_ok-targets.targets.items in
    load_any_is around s store _ (spots_of (laid_tree c.args.view.now.laid.now) c.args.view.now.task c.args.scalar) c.args.address xs c.in_ok-targets.ensures refl c.no_classes.ensures
    c.args.target (open_value c.args.scalar) c.new.ensures
    (c.in_ok-given.ensures ∙ ap (λ ys. option_map (arrived around) (after_load_any around s c.args.target ys c.open_value-value.result)) slice
    ∙ ap (λ v. option_map (arrived around) (after_load_any around s c.args.target xs v)) c.open_value-value.ensures)
