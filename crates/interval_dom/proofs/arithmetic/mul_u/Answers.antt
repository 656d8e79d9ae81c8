use Rattle.std.proofs.Common.{FitsSigned, arith, ◌∙◌}
use Rattle.std.specs.Int.{w128}
use Rattle.std.proofs.lemmas.Int.{ints}
use Rattle.interval_dom.proofs.Corners.{same_span}
use Rattle.interval_dom.proofs.Ranges.{natural_product, natural_row}
use Rattle.interval_dom.proofs.arithmetic.mul_u.Goals as goal

pub returns : goal.returns
returns c =
    let al : FitsSigned w128 c.args.a.lo = omega (arith, ints) in
    let ah : FitsSigned w128 c.args.a.hi = omega (arith, ints) in
    let bl : FitsSigned w128 c.args.b.lo = omega (arith, ints) in
    let bh : FitsSigned w128 c.args.b.hi = omega (arith, ints) in
    same_span
    (natural_product _ _ al bl c.requires.left.low c.requires.right.low)
    (natural_product _ _ ah bh (omega (arith, ints)) (omega (arith, ints)))
    ∙ natural_row _ _ c.args.a.ordered c.args.b.ordered c.requires.left.low c.requires.right.low
