use Rattle.std.proofs.Common.{arith}
use Rattle.std.proofs.lemmas.Int.{ints}
use Rattle.transfer_int.proofs.Reducing.{smaller_iff}
use Rattle.transfer_int.proofs.Spans.{some_of}
use Rattle.transfer_int.proofs.remainders.are_smaller.Goals as goal

pub returns : goal.returns
returns c =
    let lo = c.lo.ensures.in_reach in
    let hi = c.hi.ensures.in_reach in
    smaller_iff _ _ _ c.lo.result c.hi.result _ _ _ (some_of _ c.requires) c.lo.ensures.value c.hi.ensures.value
    (omega (arith, ints, c.unsigned_abs.ensures, c.unsigned_abs-2.ensures, c.max-size.ensures, lo.low, lo.high, hi.low, hi.high))
    (omega (arith, ints, c.unsigned_abs.ensures, c.unsigned_abs-2.ensures, c.max-size.ensures, lo.low, lo.high, hi.low, hi.high))
    c.part.ensures (rw c.one.ensures at c.below.ensures)
