use Rattle.std.proofs.Common.{◌≡◌, ℕ, length, ◌∙◌, ap, Some, arith}
use Rattle.tm_lattice.specs.Tables.{changed_table}
use Rattle.edge_effects.specs.calculations.transfer_rows.Accesses.{single_of}
use Rattle.edge_effects.specs.calculations.transfer_rows.Rows.{stored_cell}
use Rattle.edge_actions.specs.Edges.{around_of}
use Rattle.memory_effects.proofs.States.{stored_state}
use Rattle.memory_effects.proofs.stores.stored.Goals as goal

pub returns-in_ok-cells-in_default : goal.returns-in_ok-cells-in_default
returns-in_ok-cells-in_default c =
    let around = around_of c.args.view.now in
    let s = c.args.state.now in
    let v = c.args.value.now in
    let xs = c.args.targets.now in
    ap Some c.new.ensures
    ∙ stored_state around s v xs c.in_ok-temps-in_default.temps c.in_ok-cells-in_default.cells (λ none. (let n : length xs ≡ 0 = ap length none in absurd (omega (arith, n)))) c.in_ok-temps-in_default.ensures
    (c.in_ok-cells-in_default.ensures ∙ ap (changed_table (stored_cell around v xs (single_of around.is_smashed xs))) c.cells.ensures)
