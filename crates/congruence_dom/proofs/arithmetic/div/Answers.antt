use Rattle.std.proofs.Common.{ℤ, pos, ap, ◌∙◌}
use Rattle.std.specs.Prelude.{int_div, unsigned_abs}
use Rattle.congruence_dom.proofs.Ranges.{back, modulus_fits, of_two, residue_fits, same_parts, size_of_quotient}
use Rattle.congruence_dom.proofs.arithmetic.div.Goals as goal

pub returns : goal.returns
returns c = same_parts
    (back _ (record { sfits = c.quotient.type_inv }) ∙ of_two int_div (residue_fits c.args.a c.requires.class) c.ranges.b c.quotient.ensures.value)
    (back _ (record { sfits = c.abs.type_inv }) ∙ c.abs.ensures.value
    ∙ ap (λ (z : ℤ). pos (unsigned_abs z))
    (back _ (record { sfits = c.quotient-2.type_inv }) ∙ of_two int_div (modulus_fits c.args.a c.requires.class) c.ranges.b c.quotient-2.ensures.value)
    ∙ size_of_quotient c.args.a.modulus c.args.b c.requires.class.modulus_low)
