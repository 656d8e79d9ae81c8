use Rattle.std.proofs.Common.{arith}
use Rattle.std.proofs.lemmas.Int.{ints}
use Rattle.strided_dom.proofs.Reach.{kept}
use Rattle.transfer_int.proofs.Placing.{some_member}
use Rattle.transfer_int.proofs.Excluding.{never, always, decided, count_below, count_above, counts_within}
use Rattle.transfer_int.proofs.Inside.{none_in}
use Rattle.transfer_int.proofs.classes.has_bad_count.Goals as goal

pub returns-then-is_empty : goal.returns-then-is_empty
returns-then-is_empty c = never (λ h. none_in c.args.a.now h.left (c.is_empty.ensures.0 c.if-is_empty.true) h.in_left)

pub returns-then-is_empty-2 : goal.returns-then-is_empty-2
returns-then-is_empty-2 c = never (λ h. none_in c.args.b.now h.right (c.is_empty-2.ensures.0 c.if-is_empty-2.true) h.in_right)

pub returns-then-lo-lt0 : goal.returns-then-lo-lt0
returns-then-lo-lt0 c =
    always (count_below c.args.ty c.args.a.now c.args.b.now (some_member c.args.a.now c.is_empty.result c.is_empty.ensures c.if-is_empty.false) c.lo.result c.lo.ensures.least.member
    (omega (arith, ints, kept c.lo.ensures.in_reach, c.if-lo-lt0.true)))

pub returns : goal.returns
returns c =
    let some = some_member c.args.a.now c.is_empty.result c.is_empty.ensures c.if-is_empty.false in
    let low = kept c.lo.ensures.in_reach in
    let high = kept c.hi.ensures.in_reach in
    decided _
    (λ e. count_above c.args.ty c.args.a.now c.args.b.now some c.hi.result c.hi.ensures.greatest.member (omega (arith, ints, e, high, c.from.ensures, c.width.ensures.value, c.width.ensures.at_most)))
    (λ e. counts_within c.args.ty c.args.a.now c.args.b.now c.lo.result c.hi.result c.lo.ensures.least c.hi.ensures.greatest (omega (arith, ints, low, c.if-lo-lt0.false))
    (omega (arith, ints, e, high, c.from.ensures, c.width.ensures.value, c.width.ensures.at_most)))
