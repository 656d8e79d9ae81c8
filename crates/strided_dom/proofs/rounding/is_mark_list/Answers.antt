use Rattle.std.proofs.Common.{pos, slice_index_or, refl, arith, SFits, rules}
use Rattle.std.specs.Int.{w128}
use Rattle.std.proofs.lemmas.Int.{ints, to_z-of_z}
use Rattle.strided_dom.proofs.MarkLists.{up_to_none, up_to_more, up_to_all, not_above, not_in_reach}
use Rattle.strided_dom.proofs.rounding.is_mark_list.Goals as goal

pub loop-i-init : goal.loop-i-init
loop-i-init c = up_to_none c.args.ends.now

pub loop-i-preserved : goal.loop-i-preserved
loop-i-preserved c =
    let fits : SFits w128 (slice_index_or c.args.ends.now c.loop-i.i (pos 0)) = search rules in
    let x = to_z-of_z _ _ fits in
    rw x (up_to_more c.args.ends.now c.loop-i.i _ c.loop-i.invariant (slice_index_or c.args.ends.now c.loop-i.i (pos 0)) (pos 0) c.loop-i-test.true refl
    (omega (arith, ints, c.if-end-last.false)) (omega (arith, ints, c.if-end-gt-REACH.false)))

pub returns-then-end-last : goal.returns-then-end-last
returns-then-end-last c =
    let fits : SFits w128 (slice_index_or c.args.ends.now c.loop-i.i (pos 0)) = search rules in
    not_above c.args.ends.now c.loop-i.i _ c.loop-i.invariant (slice_index_or c.args.ends.now c.loop-i.i (pos 0)) (pos 0) c.loop-i-test.true refl (omega (arith, ints, c.if-end-last.true))

pub returns-then-end-gt-REACH : goal.returns-then-end-gt-REACH
returns-then-end-gt-REACH c =
    let fits : SFits w128 (slice_index_or c.args.ends.now c.loop-i.i (pos 0)) = search rules in
    not_in_reach c.args.ends.now c.loop-i.i _ c.loop-i.invariant (slice_index_or c.args.ends.now c.loop-i.i (pos 0)) (pos 0) c.loop-i-test.true refl (omega (arith, ints, c.if-end-gt-REACH.true))

pub returns : goal.returns
returns c = up_to_all c.args.ends.now c.loop-i.i _ c.loop-i.invariant c.loop-i-test.false
