use Rattle.std.proofs.Common.{◌≡◌, ◌<ℤ◌, arith}
use Rattle.std.specs.Int.{int_min}
use Rattle.std.proofs.lemmas.Int.{ints}
use Rattle.strided_dom.specs.Progression.{IsInReach}
use Rattle.strided_dom.proofs.Commons.{meet_crossed, meet_none, meet_is}
use Rattle.strided_dom.proofs.Reach.{kept, reach_min, reach_between}
use Rattle.strided_dom.proofs.intersections.meet_of.Goals.{After-min-top}
use Rattle.strided_dom.proofs.intersections.meet_of.Goals as goal

top_is : (c : After-min-top) → c.min-top.result ≡ int_min c.args.s.hi c.args.t.hi
top_is c = rw (kept c.requires.left.high, kept c.requires.right.high) at c.min-top.ensures.value

top_reach : (c : After-min-top) → IsInReach c.min-top.result
top_reach c = reach_min (top_is c) c.requires.left.high c.requires.right.high

pub returns-then-top-t : goal.returns-then-top-t
returns-then-top-t c =
    let m = (goal.at.returns-then-top-t c).After-min-top in
    let test = rw (kept (top_reach m), kept c.requires.right.low) at c.if-top-t.true in
    let crossed : c.min-top.result <ℤ c.args.t.lo = omega (arith, ints, test) in
    λ a b h k. meet_crossed a b c.empty.result _ _ _ _ _ _ c.min-top.result h k (top_is m) crossed c.empty.ensures

pub first_common-requires-clause-high : goal.first_common-requires-clause-high
first_common-requires-clause-high c =
    let m = (goal.at.first_common-requires-clause-high c).After-min-top in
    rw (kept (top_reach m)) (top_reach m)

pub first_common-requires-clause-order : goal.first_common-requires-clause-order
first_common-requires-clause-order c = c.requires.order

pub first_common-requires-clause-ordered : goal.first_common-requires-clause-ordered
first_common-requires-clause-ordered c =
    let m = (goal.at.first_common-requires-clause-ordered c).After-min-top in
    let test = rw (kept (top_reach m), kept c.requires.right.low) at c.if-top-t.false in
    rw (kept (top_reach m)) (omega (arith, ints, test))

pub returns-in-None : goal.returns-in-None
returns-in-None c =
    let m = (goal.at.returns-in-None c).After-min-top in
    let none = rw (kept (top_reach m)) at c.in-None.ensures in
    λ a b h k. meet_none a b c.empty-in-None.result _ _ _ _ _ _ c.min-top.result h k (top_is m) none c.empty-in-None.ensures

pub spaced-requires-clause-low : goal.spaced-requires-clause-low
spaced-requires-clause-low c =
    let m = (goal.at.spaced-requires-clause-low c).After-min-top in
    let least = rw (kept (top_reach m)) at c.in-Some.ensures in
    let r = reach_between c.requires.right.low (top_reach m) least.member.spaced.from least.member.spaced.to in
    rw (kept r) r

pub spaced-requires-clause-high : goal.spaced-requires-clause-high
spaced-requires-clause-high c =
    let m = (goal.at.spaced-requires-clause-high c).After-min-top in
    rw (kept (top_reach m)) (top_reach m)

pub spaced-requires-clause-ordered : goal.spaced-requires-clause-ordered
spaced-requires-clause-ordered c =
    let m = (goal.at.spaced-requires-clause-ordered c).After-min-top in
    let least = rw (kept (top_reach m)) at c.in-Some.ensures in
    let r = reach_between c.requires.right.low (top_reach m) least.member.spaced.from least.member.spaced.to in
    rw (kept (top_reach m), kept r) least.member.spaced.to

pub returns-in-Some : goal.returns-in-Some
returns-in-Some c =
    let m = (goal.at.returns-in-Some c).After-min-top in
    let least = rw (kept (top_reach m)) at c.in-Some.ensures in
    let r = reach_between c.requires.right.low (top_reach m) least.member.spaced.from least.member.spaced.to in
    let common = rw (c.abs_diff.ensures, kept (top_reach m), kept r) at c.common_stride-stride.ensures in
    let exact = rw (kept (top_reach m), kept r) at c.spaced.ensures in
    λ a b h k. meet_is a b c.spaced.result _ _ _ _ _ _ c.min-top.result c.in-Some.first _ h k c.requires.order (top_is m) least common exact
