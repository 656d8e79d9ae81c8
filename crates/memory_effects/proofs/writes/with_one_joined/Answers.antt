use Rattle.std.proofs.Common.{◌≡◌, ℕ, ◌∙◌, ap, sym, refl, Some}
use Rattle.std.specs.FinMap.{get}
use Rattle.std.specs.Option.{option_copied}
use Rattle.tm_laid.specs.Layouts.{laid_tree}
use Rattle.edge_effects.specs.calculations.transfer_rows.StateForms.{Cell}
use Rattle.edge_effects.specs.calculations.transfer_rows.Rows.{joining}
use Rattle.edge_actions.specs.Layouts.{is_shared_cell}
use Rattle.memory_effects.specs.reading.Changes.{kept_or}
use Rattle.memory_effects.proofs.Changing.{one_changed, one_absent, one_same}
use Rattle.memory_effects.proofs.writes.with_one_joined.Goals as goal

pub returns-in_default : goal.returns-in_default
returns-in_default c =
    one_absent (λ key (d : Cell). joining (is_shared_cell (laid_tree c.args.view.now.laid.now) key) c.args.view.now.held c.args.value.now d) c.args.cells c.args.cell c.args.cells
    (sym c.get.ensures ∙ ap option_copied c.in_default.is) refl

pub returns-in_default-2 : goal.returns-in_default-2
returns-in_default-2 c =
    let entry = c.in-Some.entry.now in
    one_same (λ key (d : Cell). joining (is_shared_cell (laid_tree c.args.view.now.laid.now) key) c.args.view.now.held c.args.value.now d) c.args.cells c.args.cell c.args.cells entry
    (sym c.get.ensures ∙ ap option_copied c.in-Some.is) (sym (sym (ap (λ o. kept_or o entry) c.in_default-2.is) ∙ c.in_ok-more.ensures)) refl

pub returns : goal.returns
returns c =
    let entry = c.in-Some.entry.now in
    one_changed (λ key (d : Cell). joining (is_shared_cell (laid_tree c.args.view.now.laid.now) key) c.args.view.now.held c.args.value.now d) c.args.cells c.args.cell c.put.new.self entry c.in-Some-2.more
    (sym c.get.ensures ∙ ap option_copied c.in-Some.is) (sym (ap (λ o. kept_or o entry) c.in-Some-2.is) ∙ c.in_ok-more.ensures) (c.in_ok-put.ensures.written (λ e. e))
