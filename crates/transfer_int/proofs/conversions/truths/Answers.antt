use Rattle.std.proofs.Common.{ap, refl, to_z}
use Rattle.std.specs.Int.{w128}
use Rattle.strided_dom.proofs.Reach.{kept}
use Rattle.transfer_int.proofs.Placing.{some_member}
use Rattle.transfer_int.proofs.Truths.{none, one, zero_alone, both}
use Rattle.transfer_int.proofs.conversions.truths.Goals as goal

pub returns-then-is_empty : goal.returns-then-is_empty
returns-then-is_empty c = none _ (c.is_empty.ensures.0 c.if-is_empty.true)

pub returns-then-not-has : goal.returns-then-not-has
returns-then-not-has c =
    one _ _ _ (some_member _ _ c.is_empty.ensures c.if-is_empty.false) (λ h. absurd (let f = c.has.ensures.1 h in let g = c.if-not-has.true in cc)) c.one.ensures

pub returns-then-lo-hi : goal.returns-then-lo-hi
returns-then-lo-hi c =
    zero_alone _ _ c.lo.result c.hi.result (c.has.ensures.0 c.if-not-has.false) c.lo.ensures.least c.hi.ensures.greatest (rw (kept c.lo.ensures.in_reach, kept c.hi.ensures.in_reach) at (ap (to_z w128) c.if-lo-hi.true)) c.one-then-lo-hi.ensures

pub returns : goal.returns
returns c =
    both _ _ c.lo.result c.hi.result (c.has.ensures.0 c.if-not-has.false) c.lo.ensures.least.member c.hi.ensures.greatest.member (λ e. c.if-lo-hi.false (rw e refl)) c.range.ensures
