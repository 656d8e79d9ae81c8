use Rattle.std.proofs.Common.{ℕ, List, ◌∙◌, ◌&&◌, ap, sym, refl, cond}
use Rattle.std.specs.Option.{option_map}
use Rattle.tm_laid.specs.Layouts.{laid_tree}
use Rattle.pointer_dom.specs.Values.{Values, no_value}
use Rattle.interfere_set.specs.Stores.{Interferences}
use Rattle.edge_effects.specs.calculations.transfer_rows.Accesses.{is_among}
use Rattle.edge_effects.specs.calculations.transfer_rows.Rows.{arrived, after_store}
use Rattle.edge_effects.specs.calculations.transfer_rows.Contributions.{cells_added, nested_under}
use Rattle.edge_actions.specs.Layouts.{is_shared_cell, spots_of}
use Rattle.edge_actions.specs.Edges.{around_of}
use Rattle.memory_effects.proofs.Effects.{store_is}
use Rattle.memory_effects.proofs.stores.store.Goals as goal

pub returns : goal.returns
returns c = λ store.
    let around = around_of c.args.view.now in
    let s = c.args.state.now in
    let laid = laid_tree c.args.view.now.laid.now in
    let task = c.args.view.now.task in
    let held = c.args.view.now.held in
    let v = c.in_ok-value.value in
    let cells = c.as_slice-cells.result.now in
    let xs = c.in_ok-targets.targets.items in
    let slice = c.as_slice-cells.ensures in
    let at = λ (w : Values) (ys : List ℕ). cells_added (λ x. cond (is_shared_cell laid x && is_among ys x) w no_value) ys in
    store_is around s store _ (spots_of laid task c.args.scalar) c.args.address c.args.source xs c.in_ok-targets.ensures refl c.no_classes.ensures
    (ap (λ (a : Interferences). a.weak) c.from_parts.ensures ∙ c.in_ok-weak.ensures ∙ ap (λ h. nested_under task h c.in_ok-written.written) c.from.ensures
    ∙ ap (nested_under task held) (c.in_ok-written.ensures ∙ ap (at v) slice ∙ ap (λ w. at w xs) c.in_ok-value.ensures))
    (ap (λ (a : Interferences). a.sync) c.from_parts.ensures ∙ c.new.ensures)
    (c.in_ok-after.ensures ∙ ap (λ ys. option_map (arrived around) (after_store around s v ys)) slice ∙ ap (λ w. option_map (arrived around) (after_store around s w xs)) c.in_ok-value.ensures)
