use Rattle.std.proofs.Common.{sym, ◌∙◌, arith}
use Rattle.std.proofs.lemmas.Int.{ints}
use Rattle.strided_dom.specs.Progression.{first_of}
use Rattle.strided_dom.proofs.Reach.{kept}
use Rattle.transfer_int.proofs.Placing.{some_member}
use Rattle.transfer_int.proofs.Excluding.{never, decided, negative_below, none_negative}
use Rattle.transfer_int.proofs.Inside.{none_in}
use Rattle.transfer_int.proofs.classes.shifts_negative.Goals as goal

pub returns-then-is_empty : goal.returns-then-is_empty
returns-then-is_empty c = never (λ h. none_in c.args.a.now h.left (c.is_empty.ensures.0 c.if-is_empty.true) h.in_left)

pub returns-then-is_empty-2 : goal.returns-then-is_empty-2
returns-then-is_empty-2 c = never (λ h. none_in c.args.b.now h.right (c.is_empty-2.ensures.0 c.if-is_empty-2.true) h.in_right)

pub returns : goal.returns
returns c =
    let low = kept c.lo.ensures.in_reach in
    decided _
    (λ e. negative_below c.args.ty c.args.a.now c.args.b.now (some_member c.args.a.now c.is_empty.result c.is_empty.ensures c.if-is_empty.false) c.lo.result (first_of c.args.b.now)
    (sym c.signed.ensures ∙ c.if-not-signed.false) c.lo.ensures.least.member
    (some_member c.args.b.now c.is_empty-2.result c.is_empty-2.ensures c.if-is_empty-2.false) (omega (arith, ints, low, e)))
    (λ e. none_negative c.args.ty c.args.a.now c.args.b.now c.lo.result c.lo.ensures.least (omega (arith, ints, low, e)))
