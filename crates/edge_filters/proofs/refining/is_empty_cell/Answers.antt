use Rattle.std.proofs.Common.{◌∙◌, sym, ap}
use Rattle.std.specs.Option.{option_copied}
use Rattle.edge_effects.specs.calculations.transfer_rows.StateForms.{is_no_value, own_value}
use Rattle.edge_effects.proofs.low.transfer_rows.Steps.{none_is_none}
use Rattle.edge_effects.proofs.Common.{nothing_test}
use Rattle.edge_filters.proofs.refining.is_empty_cell.Goals as goal

pub returns-in-None : goal.returns-in-None
returns-in-None c = sym (ap (λ o. is_no_value (own_value o)) (sym c.cell.ensures ∙ ap option_copied c.in-None.is) ∙ none_is_none)

pub returns-in-Some : goal.returns-in-Some
returns-in-Some c =
    nothing_test c.is_nothing.result c.in-Some.entry.now.value c.is_nothing.ensures.nothing
    ∙ sym (ap (λ o. is_no_value (own_value o)) (sym c.cell.ensures ∙ ap option_copied c.in-Some.is))
