use Rattle.std.proofs.Common.{arith, ◌∙◌}
use Rattle.std.proofs.lemmas.Int.{ints}
use Rattle.tm_numbers.specs.Divisors.{int_gcd}
use Rattle.congruence_dom.proofs.Ranges.{back, modulus_fits, of_two, same_parts}
use Rattle.congruence_dom.proofs.arithmetic.sub.Goals as goal

pub returns : goal.returns
returns c = same_parts (omega (arith, ints))
    (back _ (record { sfits = c.common.type_inv })
    ∙ of_two int_gcd (modulus_fits c.args.a c.requires.left) (modulus_fits c.args.b c.requires.right) c.common.ensures.value)
