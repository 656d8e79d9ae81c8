use Rattle.std.proofs.Common.{pos, ◌-ℤ◌, ◌≤ℤ◌, ◌<ℤ◌, arith}
use Rattle.std.proofs.lemmas.Int.{ints}
use Rattle.filters.proofs.Refinements.{hull_none, hull_by, one_less}
use Rattle.filters.proofs.comparisons.less.Goals as goal

pub returns-then-is_empty : goal.returns-then-is_empty
returns-then-is_empty c = hull_none _ _ _ _ (c.is_empty.ensures.0 c.if-is_empty.true) c.empty.ensures

pub returns : goal.returns
returns c =
    let end = c.hi.ensures.greatest in
    hull_by (λ v w. v <ℤ w) (λ v. v ≤ℤ (c.hi.result -ℤ pos 1)) _ _ _
    (λ v q. (c.hi.result, (end.member, omega (arith, ints, q))))
    (λ v w m r. omega (arith, ints, r, end.bound w m))
    (rw (one_less c.hi.result c.hi.ensures.in_reach) at c.up_to.ensures)
