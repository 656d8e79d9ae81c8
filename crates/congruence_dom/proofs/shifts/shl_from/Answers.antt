use Rattle.std.proofs.Common.{ℤ, ◌*ℤ◌, ap, ◌∙◌, refl}
use Rattle.tm_numbers.specs.Divisors.{int_gcd}
use Rattle.tm_numbers.specs.Powers.{power}
use Rattle.congruence_dom.proofs.Ranges.{back, modulus_fits, of_two, residue_fits, same_parts}
use Rattle.congruence_dom.proofs.shifts.shl_from.Goals as goal

pub returns : goal.returns
returns c = same_parts refl
    (back _ (record { sfits = c.product.type_inv })
    ∙ of_two ◌*ℤ◌ {x = c.common.result} {y = c.power_of_two-factor.result} (record { sfits = c.common.type_inv }) (record { sfits = c.power_of_two-factor.type_inv }) c.product.ensures
    ∙ ap (λ (z : ℤ). c.common.result *ℤ z) c.power_of_two-factor.ensures
    ∙ ap (λ (z : ℤ). z *ℤ power c.args.least) (of_two int_gcd (modulus_fits c.args.a c.requires.class) (residue_fits c.args.a c.requires.class) c.common.ensures.value))
