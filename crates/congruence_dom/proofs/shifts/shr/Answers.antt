use Rattle.std.proofs.Common.{ℤ, ap, ◌∙◌}
use Rattle.congruence_dom.specs.Rows.{div_row}
use Rattle.congruence_dom.proofs.Ranges.{back}
use Rattle.congruence_dom.proofs.shifts.shr.Goals as goal

pub returns : goal.returns
returns c = c.div.ensures ∙ ap (λ (z : ℤ). div_row c.args.a z) (back _ (record { sfits = c.power_of_two.type_inv }) ∙ c.power_of_two.ensures)
