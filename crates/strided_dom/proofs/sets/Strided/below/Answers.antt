use Rattle.strided_dom.proofs.Decisions.{below_empty, below_none, below_iff}
use Rattle.strided_dom.proofs.sets.Strided.below.Goals as goal

pub returns-in-None : goal.returns-in-None
returns-in-None c = below_empty c.args.self.now c.args.other.now c.in-None.ensures

pub returns-in-None-ends : goal.returns-in-None-ends
returns-in-None-ends c = below_none c.args.self.now c.args.other.now _ _ _ c.in-Some.ensures c.in-None-ends.ensures

pub returns-in-Some-ends : goal.returns-in-Some-ends
returns-in-Some-ends c = below_iff c.args.self.now c.args.other.now _ _ _ _ _ _ _ c.in-Some.ensures c.in-Some-ends.ensures c.are_ends_within.ensures
