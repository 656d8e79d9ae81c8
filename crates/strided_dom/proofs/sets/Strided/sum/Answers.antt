use Rattle.std.proofs.Common.{refl}
use Rattle.strided_dom.proofs.Hulls.{sum_left_empty, sum_right_empty, span_from_of, low_in, high_in}
use Rattle.strided_dom.proofs.sets.Strided.sum.Goals as goal

pub sum_of-requires-clause-left : goal.sum_of-requires-clause-left
sum_of-requires-clause-left c = span_from_of _ _ _ _ c.in-Some.ensures

pub sum_of-requires-clause-right : goal.sum_of-requires-clause-right
sum_of-requires-clause-right c = span_from_of _ _ _ _ c.in-Some-ends.ensures

pub sum_of-requires-clause-low : goal.sum_of-requires-clause-low
sum_of-requires-clause-low c =
    c.requires _ (record { left = c.in-Some.s.lo; right = c.in-Some-ends.t.lo; in_left = low_in _ _ _ _ c.in-Some.ensures; in_right = low_in _ _ _ _ c.in-Some-ends.ensures; sum = refl })

pub sum_of-requires-clause-high : goal.sum_of-requires-clause-high
sum_of-requires-clause-high c =
    c.requires _ (record { left = c.in-Some.s.hi; right = c.in-Some-ends.t.hi; in_left = high_in _ _ _ _ c.in-Some.ensures; in_right = high_in _ _ _ _ c.in-Some-ends.ensures; sum = refl })

pub returns-in-None : goal.returns-in-None
returns-in-None c = sum_left_empty c.args.self.now c.args.other.now c.in-None.ensures

pub returns-in-None-ends : goal.returns-in-None-ends
returns-in-None-ends c = sum_right_empty c.args.self.now c.args.other.now c.in-None-ends.ensures

pub returns-in-Some-ends : goal.returns-in-Some-ends
returns-in-Some-ends c = c.sum_of.ensures c.args.self.now c.args.other.now c.in-Some.ensures c.in-Some-ends.ensures
