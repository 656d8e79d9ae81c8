use Rattle.std.proofs.Common.{◌∙◌, ap, Some}
use Rattle.tm_laid.specs.Layouts.{laid_tree}
use Rattle.tm_lattice.specs.Tables.{changed_table}
use Rattle.edge_effects.specs.calculations.transfer_rows.Rows.{cleared_to}
use Rattle.edge_actions.specs.Edges.{around_of, cleared_value}
use Rattle.memory_effects.proofs.Effects.{clear_is}
use Rattle.memory_effects.proofs.States.{cleared_state}
use Rattle.memory_effects.proofs.clears.clear.Goals as goal

pub returns : goal.returns
returns c = λ store.
    let around = around_of c.args.view.now in
    let s = c.args.state.now in
    let laid = laid_tree c.args.view.now.laid.now in
    let object = c.args.object in
    clear_is around s store c.plain.result c.plain.ensures.targets c.plain.ensures.added (c.plain.ensures.classes ∙ c.no_classes.ensures) (cleared_value laid object)
    (c.plain.ensures.state ∙ ap Some (c.new.ensures ∙ cleared_state around s laid object c.object_at-place.result c.in_ok-temps.temps c.in_ok-cells.cells c.object_at-place.ensures c.in_ok-temps.ensures
    (c.in_ok-cells.ensures ∙ ap (changed_table (λ x. cleared_to (cleared_value laid object x))) c.cells.ensures)))
