use Rattle.std.proofs.Common.{◌≤ℤ◌, SFits, arith, rules}
use Rattle.std.specs.Int.{w128}
use Rattle.std.proofs.lemmas.Int.{ints, clamps, to_z-of_z}
use Rattle.strided_dom.proofs.Reach.{kept}
use Rattle.filters.proofs.Refinements.{cut, cut_none}
use Rattle.filters.proofs.comparisons.up_to.Goals as goal

pub returns-then-is_empty : goal.returns-then-is_empty
returns-then-is_empty c = cut_none _ _ (c.is_empty.ensures.0 c.if-is_empty.true)

pub returns : goal.returns
returns c =
    let low = kept c.lo.ensures.in_reach in
    let high = kept c.hi.ensures.in_reach in
    let limit = to_z-of_z _ _ c.ranges.limit in
    let fits : SFits w128 c.min.result = search rules in
    let end = to_z-of_z _ _ fits in
    cut _ _ _ _ _ (λ v. v ≤ℤ c.args.limit)
    (λ v m q. (omega (arith, ints, clamps, q, low, limit, end, c.min.ensures.value, c.lo.ensures.least.bound v m), omega (arith, ints, clamps, q, high, limit, end, c.min.ensures.value, c.hi.ensures.greatest.bound v m)))
    (λ v from to. omega (arith, ints, clamps, from, to, limit, end, c.min.ensures.value))
    c.range.ensures c.meet.ensures
