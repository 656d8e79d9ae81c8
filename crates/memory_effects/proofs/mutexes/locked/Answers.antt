use Rattle.std.proofs.Common.{◌∙◌, ap}
use Rattle.tm_lattice.specs.Tables.{changed_table}
use Rattle.edge_effects.specs.calculations.transfer_rows.Rows.{aged, taken}
use Rattle.edge_actions.specs.Edges.{around_of}
use Rattle.memory_effects.proofs.mutexes.locked.Goals as goal

pub returns : goal.returns
returns c =
    let around = around_of c.args.view.now in
    c.new.ensures ∙ (λ i. record {
      temps = c.in_ok-temps.ensures i;
      cells = (c.in_ok-cells.ensures ∙ ap (changed_table (λ x d. aged (taken around c.args.store.now c.args.mutex x d))) c.cells.ensures) i;
    })
