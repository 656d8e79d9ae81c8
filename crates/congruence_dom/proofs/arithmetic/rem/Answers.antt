use Rattle.std.proofs.Common.{ℤ, ap, ◌∙◌}
use Rattle.tm_numbers.specs.Divisors.{int_gcd}
use Rattle.congruence_dom.proofs.Ranges.{back, modulus_fits, of_two, residue_fits, same_parts}
use Rattle.congruence_dom.proofs.arithmetic.rem.Goals as goal

pub returns : goal.returns
returns c = same_parts (back _ (residue_fits c.args.a c.requires.left))
    (back _ (record { sfits = c.common-2.type_inv })
    ∙ of_two int_gcd {x = c.common.result} (record { sfits = c.common.type_inv }) (residue_fits c.args.b c.requires.right) c.common-2.ensures.value
    ∙ ap (λ (z : ℤ). int_gcd z c.args.b.residue)
    (of_two int_gcd (modulus_fits c.args.a c.requires.left) (modulus_fits c.args.b c.requires.right) c.common.ensures.value))
