use Rattle.std.proofs.Common.{◌≡◌, ◌∙◌, Some, sym, ap}
use Rattle.std.specs.FinMap.{get, insert}
use Rattle.std.specs.Option.{option_copied}
use Rattle.tm_lattice.specs.Tables.{changed_table}
use Rattle.edge_effects.specs.calculations.transfer_rows.StateForms.{Cell}
use Rattle.edge_effects.specs.calculations.transfer_rows.Rows.{met_where}
use Rattle.edge_filters.proofs.MetCells.{met_below, none_met, absent_met, same_met, put_met}
use Rattle.edge_filters.proofs.refining.met_cells.Goals as goal

pub returns-in_default : goal.returns-in_default
returns-in_default c =
    c.in_ok-after.ensures ∙ none_met c.args.cells.now c.args.left.now
    ∙ ap (λ copy. changed_table (met_where copy c.args.left.now) c.args.cells.now) (sym c.in_default.is)

pub returns-in_default-get : goal.returns-in_default-get
returns-in_default-get c =
    c.in_ok-after.ensures ∙ absent_met c.args.cells.now c.args.left.now c.in-Some.cell (sym c.get.ensures ∙ ap option_copied c.in_default-get.is)
    ∙ ap (λ copy. changed_table (met_where copy c.args.left.now) c.args.cells.now) (sym c.in-Some.is)

pub returns-then-below : goal.returns-then-below
returns-then-below c =
    let own = c.in-Some-get.entry.now in
    let stands : get c.args.cells.now c.in-Some.cell ≡ Some own = sym c.get.ensures ∙ ap option_copied c.in-Some-get.is in
    let kept = met_below own.value c.args.left.now c.is_nothing-own.ensures.value c.is_nothing-left.ensures.value (c.below.ensures.0 c.if-below.true) in
    c.in_ok-after.ensures ∙ same_met c.args.cells.now c.args.left.now c.in-Some.cell own stands kept
    ∙ ap (λ copy. changed_table (met_where copy c.args.left.now) c.args.cells.now) (sym c.in-Some.is)

pub returns : goal.returns
returns c =
    let own = c.in-Some-get.entry.now in
    let stands : get c.args.cells.now c.in-Some.cell ≡ Some own = sym c.get.ensures ∙ ap option_copied c.in-Some-get.is in
    let met : Cell = record { value = c.in_ok-value.value; pending = own.pending; fresh = own.fresh; stored = own.stored } in
    c.in_ok-put.ensures.written (λ e. e) ∙ ap (λ t. insert t c.in-Some.cell met) c.in_ok-after.ensures
    ∙ put_met c.args.cells.now c.args.left.now c.in-Some.cell own met stands (ap (λ w. record own { value = w }) c.in_ok-value.ensures)
    ∙ ap (λ copy. changed_table (met_where copy c.args.left.now) c.args.cells.now) (sym c.in-Some.is)
