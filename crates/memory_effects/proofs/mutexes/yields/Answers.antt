use Rattle.std.proofs.Common.{◌∙◌, ap, Some}
use Rattle.tm_lattice.specs.Tables.{changed_table}
use Rattle.edge_effects.specs.calculations.transfer_rows.Rows.{aged}
use Rattle.edge_actions.specs.Edges.{around_of}
use Rattle.memory_effects.proofs.Effects.{yield_is}
use Rattle.memory_effects.proofs.States.{kept_temps}
use Rattle.memory_effects.proofs.mutexes.yields.Goals as goal

pub returns : goal.returns
returns c = λ store.
    let around = around_of c.args.view.now in
    let s = c.args.state.now in
    yield_is around s store c.plain.result c.plain.ensures.targets c.plain.ensures.added (c.plain.ensures.classes ∙ c.no_classes.ensures)
    (c.plain.ensures.state ∙ ap Some (c.new.ensures ∙ (λ i. record {
      temps = kept_temps around s c.in_ok-temps.temps c.in_ok-temps.ensures i;
      cells = (c.in_ok-cells.ensures ∙ ap (changed_table (λ x d. aged d)) c.cells.ensures) i;
    })))
