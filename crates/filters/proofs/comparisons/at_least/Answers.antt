use Rattle.std.proofs.Common.{◌≤ℤ◌, arith}
use Rattle.std.proofs.lemmas.Int.{ints}
use Rattle.strided_dom.proofs.Reach.{kept}
use Rattle.filters.proofs.Refinements.{hull_none, hull_by}
use Rattle.filters.proofs.comparisons.at_least.Goals as goal

pub returns-then-is_empty : goal.returns-then-is_empty
returns-then-is_empty c = hull_none _ _ _ _ (c.is_empty.ensures.0 c.if-is_empty.true) c.empty.ensures

pub returns : goal.returns
returns c =
    let end = c.lo.ensures.least in
    hull_by (λ v w. w ≤ℤ v) (λ v. c.lo.result ≤ℤ v) _ _ _
    (λ v q. (c.lo.result, (end.member, omega (arith, ints, q))))
    (λ v w m r. omega (arith, ints, r, end.bound w m))
    (rw (kept c.lo.ensures.in_reach) at c.from.ensures)
