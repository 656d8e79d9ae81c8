use Rattle.std.proofs.Common.{FitsSigned, pos, ap, ◌∙◌, arith}
use Rattle.std.specs.Int.{w128}
use Rattle.std.proofs.lemmas.Int.{ints}
use Rattle.congruence_dom.proofs.Ranges.{same_parts, size_back}
use Rattle.congruence_dom.proofs.arithmetic.mul_u.Goals as goal

pub returns : goal.returns
returns c =
    let f : FitsSigned w128 c.args.a.residue = omega (arith, ints) in
    let g : FitsSigned w128 c.args.b.residue = omega (arith, ints) in
    same_parts (ap pos c.size_of_product.ensures ∙ size_back _ _ f g c.requires.left.low c.requires.right.low) c.product_divisor.ensures
