use Rattle.std.proofs.Common.{◌∙◌, ap, refl}
use Rattle.std.specs.Option.{option_map}
use Rattle.tm_laid.specs.Layouts.{laid_tree}
use Rattle.calculations.specs.transfer_rows.Accesses.{single_of}
use Rattle.calculations.specs.transfer_rows.Rows.{given, arrived, loaded, new_copy}
use Rattle.edge_actions.specs.Layouts.{spots_of}
use Rattle.edge_actions.specs.Edges.{around_of}
use Rattle.edge_effects.proofs.Effects.{load_is}
use Rattle.edge_effects.proofs.loads.load.Goals as goal

pub returns : goal.returns
returns c =
    let around = around_of c.args.view.now in
    let s = c.args.state.now in
    let store = c.args.store.now in
    let slice = c.as_slice-cells.ensures in
    let xs = c.in_ok-targets.targets.items in
    load_is around s store _ (spots_of (laid_tree c.args.view.now.laid.now) c.args.view.now.task c.args.scalar) c.args.address xs c.in_ok-targets.ensures refl c.no_classes.ensures
    c.args.target c.new.ensures
    (c.in_ok-given.ensures ∙ ap (λ v. option_map (arrived around) (given s c.args.target v c.new_copy-copy.result)) (c.in_ok-value.ensures ∙ ap (loaded around s store) slice)
    ∙ ap (λ y. option_map (arrived around) (given s c.args.target (loaded around s store xs) y)) (c.new_copy-copy.ensures ∙ ap (new_copy around s) (c.single_of.ensures ∙ ap (single_of around.is_smashed) slice)))
