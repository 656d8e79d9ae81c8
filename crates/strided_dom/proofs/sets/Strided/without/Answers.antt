use Rattle.std.proofs.lemmas.Int.{to_z-of_z}
use Rattle.strided_dom.proofs.Hulls.{span_from_of, spaced_of}
use Rattle.strided_dom.proofs.Others.{without_none, empty_has_none}
use Rattle.strided_dom.proofs.sets.Strided.without.Goals as goal

pub without_member-requires-clause-ends : goal.without_member-requires-clause-ends
without_member-requires-clause-ends c = span_from_of _ _ _ _ c.in-Some.ensures

pub without_member-requires-clause-member : goal.without_member-requires-clause-member
without_member-requires-clause-member c = spaced_of c.args.self.now _ _ _ _ c.in-Some.ensures (c.has.ensures.0 c.if-not-has.false)

pub returns-then-not-has : goal.returns-then-not-has
returns-then-not-has c =
    let test = rw (to_z-of_z _ _ c.ranges.v) at c.has.ensures in
    without_none c.args.self.now c.args.v (λ p. (let t = test.1 p in cc))

pub returns-in-None : goal.returns-in-None
returns-in-None c = without_none c.args.self.now c.args.v (empty_has_none c.args.self.now c.args.v c.in-None.ensures)

pub returns-in-Some : goal.returns-in-Some
returns-in-Some c = (rw (to_z-of_z _ _ c.ranges.v) at c.without_member.ensures) c.args.self.now c.in-Some.ensures
