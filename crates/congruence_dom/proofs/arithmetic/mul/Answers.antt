use Rattle.std.proofs.Common.{◌*ℤ◌, ◌∙◌}
use Rattle.std.specs.Int.{w128}
use Rattle.std.proofs.lemmas.Int.{to_z_pos}
use Rattle.congruence_dom.proofs.Ranges.{back, divisor_fits, of_two, residue_fits, same_parts, signed_is_type}
use Rattle.congruence_dom.proofs.arithmetic.mul.Goals as goal

pub overflow_cast-result : goal.overflow_cast-result
overflow_cast-result c = record { sfits = divisor_fits c.args.a c.args.b _ c.requires.left c.requires.right c.product_divisor-modulus.ensures }

pub returns : goal.returns
returns c = same_parts
    (back _ (record { sfits = c.product.type_inv })
    ∙ of_two ◌*ℤ◌ (residue_fits c.args.a (signed_is_type c.args.a c.requires.left)) (residue_fits c.args.b (signed_is_type c.args.b c.requires.right)) c.product.ensures)
    (to_z_pos w128 _ (divisor_fits c.args.a c.args.b _ c.requires.left c.requires.right c.product_divisor-modulus.ensures) ∙ c.product_divisor-modulus.ensures)
