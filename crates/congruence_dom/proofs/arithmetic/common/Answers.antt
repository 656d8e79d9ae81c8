use Rattle.std.proofs.Common.{pos, ap, ◌∙◌, arith}
use Rattle.std.specs.Int.{w128}
use Rattle.std.proofs.lemmas.Int.{ints, to_z_pos}
use Rattle.congruence_dom.proofs.Ranges.{common_is}
use Rattle.congruence_dom.proofs.arithmetic.common.Goals as goal

pub overflow_cast-result : goal.overflow_cast-result
overflow_cast-result c =
    let is = common_is _ _ _ _ _ c.ranges.x c.ranges.y c.unsigned_abs.ensures.value c.unsigned_abs-2.ensures.value c.gcd.ensures.value c.requires.left c.requires.right in
    record { sfits = omega (arith, is.1) }

pub returns-clause-value : goal.returns-clause-value
returns-clause-value c =
    let is = common_is _ _ _ _ _ c.ranges.x c.ranges.y c.unsigned_abs.ensures.value c.unsigned_abs-2.ensures.value c.gcd.ensures.value c.requires.left c.requires.right in
    to_z_pos w128 _ (omega (arith, is.1)) ∙ ap pos is.0

pub returns-clause-bound : goal.returns-clause-bound
returns-clause-bound c =
    let is = common_is _ _ _ _ _ c.ranges.x c.ranges.y c.unsigned_abs.ensures.value c.unsigned_abs-2.ensures.value c.gcd.ensures.value c.requires.left c.requires.right in
    omega (arith, ints, is.1)
