use Rattle.std.proofs.Common.{◌∙◌, ap, sym}
use Rattle.std.specs.FinMap.{insert}
use Rattle.std.specs.Option.{option_copied}
use Rattle.tm_laid.specs.Layouts.{laid_tree}
use Rattle.edge_effects.specs.calculations.transfer_rows.StateForms.{Cell}
use Rattle.edge_effects.specs.calculations.transfer_rows.Rows.{overwriting}
use Rattle.edge_actions.specs.Layouts.{is_shared_cell}
use Rattle.memory_effects.proofs.Changing.{one_changed, one_absent}
use Rattle.memory_effects.proofs.writes.with_overwritten.Goals as goal

pub returns-in_default : goal.returns-in_default
returns-in_default c =
    one_absent (λ key (d : Cell). overwriting (is_shared_cell (laid_tree c.args.view.now.laid.now) key) c.args.view.now.held c.args.value.now d) c.args.cells.now c.args.cell c.in_ok-after.after
    (sym c.get.ensures ∙ ap option_copied c.in_default.is) c.in_ok-after.ensures

pub returns : goal.returns
returns c =
    one_changed (λ key (d : Cell). overwriting (is_shared_cell (laid_tree c.args.view.now.laid.now) key) c.args.view.now.held c.args.value.now d) c.args.cells.now c.args.cell c.put.new.self c.in-Some.entry.now c.in_ok-written.written
    (sym c.get.ensures ∙ ap option_copied c.in-Some.is) c.in_ok-written.ensures (c.in_ok-put.ensures.written (λ e. e) ∙ ap (λ t. insert t c.args.cell c.in_ok-written.written) c.in_ok-after.ensures)
