use Rattle.std.proofs.Common.{◌%◌, ◌^◌, refl, arith}
use Rattle.std.specs.Int.{w128, IsGcd}
use Rattle.std.proofs.lemmas.Int.{ints, to_z-of_z}
use Rattle.tm_cint.specs.IntTypes.{width_of}
use Rattle.transfer_int.proofs.Placing.{fits, class_exactly, respaced, first_kept, hi_kept, rest_small, ends_of, step_within}
use Rattle.transfer_int.proofs.conversions.placed.Goals.{After-range}
use Rattle.transfer_int.proofs.conversions.placed.Goals as goal

pub returns-then-extent-abs_diff : goal.returns-then-extent-abs_diff
returns-then-extent-abs_diff c =
    let t = c.args.ty in
    let low = to_z-of_z _ _ c.ranges.low in
    let high = to_z-of_z w128 c.hi.result (omega (arith, ints, c.hi.ensures, ends_of t)) in
    λ first k e.
    fits t c.args.low first k c.args.extent c.args.stride c.requires.in_type e c.requires.congruent c.progression.result
    (omega (arith, ints, low, high, c.hi.ensures, c.abs_diff.ensures, c.if-extent-abs_diff.true, c.requires.in_type.at_most))
    (rw low at c.progression.ensures)

pub nonzero_rem-first : goal.nonzero_rem-first
nonzero_rem-first c = let s = step_within c.args.ty c.args.stride c.gcd-step.result (rw c.size.ensures at c.gcd-step.ensures.greatest) in omega (arith, s)

pub overflow_cast-step : goal.overflow_cast-step
overflow_cast-step c = let s = step_within c.args.ty c.args.stride c.gcd-step.result (rw c.size.ensures at c.gcd-step.ensures.greatest) in omega (arith, ints, s)

pub range-requires-clause-positive : goal.range-requires-clause-positive
range-requires-clause-positive c = let s = step_within c.args.ty c.args.stride c.gcd-step.result (rw c.size.ensures at c.gcd-step.ensures.greatest) in omega (arith, ints, s)

gcd_is : (c : After-range) → IsGcd c.args.stride (2 ^ width_of c.args.ty) c.gcd-step.result
gcd_is c = rw c.size.ensures at c.gcd-step.ensures.greatest

pub range-requires-clause-in_reach : goal.range-requires-clause-in_reach
range-requires-clause-in_reach c = λ v p.
    let t = c.args.ty in
    let r = rest_small t c.args.stride c.gcd-step.result c.abs_diff-2.result (rw c.size.ensures at c.gcd-step.ensures.greatest) in
    let first = first_kept t c.lo.result (c.abs_diff-2.result % c.gcd-step.result) c.lo.ensures r in
    let last = hi_kept t c.hi-2.result c.hi-2.ensures in
    record { low = omega (arith, ints, ends_of t, first, p.from); high = omega (arith, ints, ends_of t, last, p.to) }

pub returns : goal.returns
returns c =
    let t = c.args.ty in
    let s = step_within t c.args.stride c.gcd-step.result (gcd_is c) in
    let low = to_z-of_z _ _ c.ranges.low in
    let high = to_z-of_z w128 c.hi.result (omega (arith, ints, c.hi.ensures, ends_of t)) in
    class_exactly t c.args.low _ c.args.extent c.args.stride c.gcd-step.result c.abs_diff-2.result c.range.result c.requires.in_type c.requires.congruent (gcd_is c)
    (omega (arith, ints, low, high, c.hi.ensures, c.abs_diff.ensures, c.if-extent-abs_diff.false, c.requires.in_type.at_most))
    (omega (arith, ints, low, c.lo-2.ensures, c.abs_diff-2.ensures, c.requires.in_type.at_least, ends_of t))
    refl
    (respaced _ _ _ _ _ _ _ (first_kept t c.lo.result (c.abs_diff-2.result % c.gcd-step.result) c.lo.ensures (rest_small t c.args.stride c.gcd-step.result c.abs_diff-2.result (gcd_is c))) (hi_kept t c.hi-2.result c.hi-2.ensures) (omega (arith, ints, s)) c.range.ensures)

pub overflow_cast-first : goal.overflow_cast-first
overflow_cast-first c =
    let r = rest_small c.args.ty c.args.stride c.gcd-step.result c.abs_diff-2.result
    (rw c.size.ensures at c.gcd-step.ensures.greatest) in
    omega (arith, ints, r)

pub overflow_add-first : goal.overflow_add-first
overflow_add-first c =
    let r = rest_small c.args.ty c.args.stride c.gcd-step.result c.abs_diff-2.result
    (rw c.size.ensures at c.gcd-step.ensures.greatest) in
    let low = to_z-of_z w128 c.lo.result (omega (arith, ints, c.lo.ensures, ends_of c.args.ty)) in
    rw low (omega (arith, ints, r, c.lo.ensures, ends_of c.args.ty))

pub progression-requires-clause-from : goal.progression-requires-clause-from
progression-requires-clause-from c = rw (to_z-of_z _ _ c.ranges.low)
    (omega (arith, ints, ends_of c.args.ty, c.requires.in_type.at_least))

pub progression-requires-clause-to : goal.progression-requires-clause-to
progression-requires-clause-to c =
    let low = to_z-of_z _ _ c.ranges.low in
    let high = to_z-of_z w128 c.hi.result (omega (arith, ints, c.hi.ensures, ends_of c.args.ty)) in
    rw low (omega (
      arith,
      ints,
      low,
      high,
      ends_of c.args.ty,
      c.hi.ensures,
      c.abs_diff.ensures,
      c.if-extent-abs_diff.true,
      c.requires.in_type.at_most,
    ))
