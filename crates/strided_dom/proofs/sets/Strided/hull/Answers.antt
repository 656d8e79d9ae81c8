use Rattle.strided_dom.proofs.Hulls.{hull_left_empty, hull_right_empty, span_from_of}
use Rattle.strided_dom.proofs.sets.Strided.hull.Goals as goal

pub hull_of-requires-clause-left : goal.hull_of-requires-clause-left
hull_of-requires-clause-left c = span_from_of _ _ _ _ c.in-Some.ensures

pub hull_of-requires-clause-right : goal.hull_of-requires-clause-right
hull_of-requires-clause-right c = span_from_of _ _ _ _ c.in-Some-ends.ensures

pub returns-in-None : goal.returns-in-None
returns-in-None c = hull_left_empty c.args.self.now c.args.other.now c.in-None.ensures

pub returns-in-None-ends : goal.returns-in-None-ends
returns-in-None-ends c = hull_right_empty c.args.self.now c.args.other.now c.in-None-ends.ensures

pub returns-in-Some-ends : goal.returns-in-Some-ends
returns-in-Some-ends c = c.hull_of.ensures c.args.self.now c.args.other.now c.in-Some.ensures c.in-Some-ends.ensures
