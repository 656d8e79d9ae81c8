use Rattle.std.proofs.Common.{◌∙◌, ap, bit_and}
use Rattle.tm_lattice.specs.Tables.{changed_table}
use Rattle.edge_effects.specs.calculations.transfer_rows.StateForms.{Cell}
use Rattle.edge_actions.specs.Edges.{around_of}
use Rattle.memory_effects.proofs.States.{kept_temps}
use Rattle.memory_effects.proofs.mutexes.unlocked.Goals as goal

pub returns : goal.returns
returns c =
    let around = around_of c.args.view.now in
    let s = c.args.state.now in
    c.new.ensures ∙ (λ i. record {
      temps = kept_temps around s c.in_ok-temps.temps c.in_ok-temps.ensures i;
      cells = (c.in_ok-cells.ensures ∙ ap (changed_table (λ x (d : Cell). record d { pending = bit_and d.pending c.all_but.result })) c.cells.ensures
          ∙ ap (λ others. changed_table (λ x (d : Cell). record d { pending = bit_and d.pending others }) s.cells) c.all_but.ensures) i;
    })
