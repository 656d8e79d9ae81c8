use Rattle.std.proofs.Common.{arith}
use Rattle.std.proofs.lemmas.Int.{ints}
use Rattle.strided_dom.proofs.Hulls.{span_from_of, span_low}
use Rattle.strided_dom.proofs.Commons.{meet_left_empty, meet_right_empty, exactly_both_turned}
use Rattle.strided_dom.proofs.Reach.{kept}
use Rattle.strided_dom.proofs.sets.Strided.meet.Goals as goal

pub returns-in-None : goal.returns-in-None
returns-in-None c = meet_left_empty c.args.self.now c.args.other.now c.in-None.ensures

pub returns-in-None-ends : goal.returns-in-None-ends
returns-in-None-ends c = meet_right_empty c.args.self.now c.args.other.now c.in-None-ends.ensures

pub meet_of-requires-clause-left : goal.meet_of-requires-clause-left
meet_of-requires-clause-left c = span_from_of _ _ _ _ c.in-Some.ensures

pub meet_of-requires-clause-right : goal.meet_of-requires-clause-right
meet_of-requires-clause-right c = span_from_of _ _ _ _ c.in-Some-ends.ensures

pub meet_of-requires-clause-order : goal.meet_of-requires-clause-order
meet_of-requires-clause-order c =
    let test = rw (kept (span_low c.in-Some.ensures), kept (span_low c.in-Some-ends.ensures)) at c.if-s-t.true in
    omega (arith, ints, test)

pub meet_of-requires-else-s-t-clause-left : goal.meet_of-requires-else-s-t-clause-left
meet_of-requires-else-s-t-clause-left c = span_from_of _ _ _ _ c.in-Some-ends.ensures

pub meet_of-requires-else-s-t-clause-right : goal.meet_of-requires-else-s-t-clause-right
meet_of-requires-else-s-t-clause-right c = span_from_of _ _ _ _ c.in-Some.ensures

pub meet_of-requires-else-s-t-clause-order : goal.meet_of-requires-else-s-t-clause-order
meet_of-requires-else-s-t-clause-order c =
    let test = rw (kept (span_low c.in-Some.ensures), kept (span_low c.in-Some-ends.ensures)) at c.if-s-t.false in
    omega (arith, ints, test)

pub returns-then-s-t : goal.returns-then-s-t
returns-then-s-t c = c.meet_of.ensures c.args.self.now c.args.other.now c.in-Some.ensures c.in-Some-ends.ensures

pub returns-else-s-t : goal.returns-else-s-t
returns-else-s-t c =
    exactly_both_turned c.args.self.now c.args.other.now c.meet_of-else-s-t.result
    (c.meet_of-else-s-t.ensures c.args.other.now c.args.self.now c.in-Some-ends.ensures c.in-Some.ensures)
