use Rattle.std.proofs.Common.{ℤ, ◌*ℤ◌, ap, ◌∙◌}
use Rattle.congruence_dom.proofs.Ranges.{back, modulus_fits, of_two, residue_fits, same_parts}
use Rattle.congruence_dom.proofs.shifts.shl.Goals as goal

pub returns : goal.returns
returns c = same_parts
    (back _ (record { sfits = c.product.type_inv })
    ∙ of_two ◌*ℤ◌ (residue_fits c.args.a c.requires.class) (record { sfits = c.power_of_two-factor.type_inv }) c.product.ensures
    ∙ ap (λ (z : ℤ). c.args.a.residue *ℤ z) c.power_of_two-factor.ensures)
    (back _ (record { sfits = c.product-2.type_inv })
    ∙ of_two ◌*ℤ◌ (modulus_fits c.args.a c.requires.class) (record { sfits = c.power_of_two-factor.type_inv }) c.product-2.ensures
    ∙ ap (λ (z : ℤ). c.args.a.modulus *ℤ z) c.power_of_two-factor.ensures)
