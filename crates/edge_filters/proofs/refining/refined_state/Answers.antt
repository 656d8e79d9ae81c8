use Rattle.std.proofs.Common.{◌∙◌, ap}
use Rattle.std.specs.FinMap.{insert}
use Rattle.tm_lattice.specs.Tables.{changed_table}
use Rattle.edge_effects.specs.calculations.transfer_rows.StateForms.{Temp}
use Rattle.edge_effects.specs.calculations.transfer_rows.Rows.{met_where}
use Rattle.edge_filters.proofs.Refined.{refined_so}
use Rattle.edge_filters.proofs.refining.refined_state.Goals as goal

pub returns : goal.returns
returns c =
    let entry : Temp = record { value = c.args.value; copy = c.args.copy } in
    c.new.ensures
    ∙ refined_so c.args.state.now c.args.temp c.args.value c.args.copy c.put.new.self c.in_ok-cells.cells
    (c.in_ok-put.ensures.written (λ e. e) ∙ ap (λ t. insert t c.args.temp entry) (c.in_ok-temps.ensures ∙ c.temps.ensures))
    (c.in_ok-cells.ensures ∙ ap (changed_table (met_where c.args.copy c.args.value)) c.cells.ensures)
