use Rattle.std.proofs.Common.{◌≡◌, nat_abs, ◌*ℤ◌, arith}
use Rattle.std.specs.Int.{int_min, int_max}
use Rattle.std.proofs.lemmas.Int.{ints, clamps, to_z-of_z}
use Rattle.strided_dom.specs.Progression.{IsInReach}
use Rattle.strided_dom.proofs.Products.{times_is, times_stride, times_congruent}
use Rattle.strided_dom.proofs.Reach.{kept, reach_fits, reach_min, reach_max}
use Rattle.strided_dom.proofs.combinations.times_of.Goals.{After-max}
use Rattle.strided_dom.proofs.combinations.times_of.Goals as goal

low_is : (c : After-max) → c.min.result ≡ int_min (c.args.s.lo *ℤ c.args.n) (c.args.s.hi *ℤ c.args.n)
low_is c = rw (kept c.requires.ends.low, kept c.requires.ends.high, to_z-of_z _ _ c.ranges.n, kept c.requires.low, kept c.requires.high) at c.min.ensures.value

high_is : (c : After-max) → c.max.result ≡ int_max (c.args.s.lo *ℤ c.args.n) (c.args.s.hi *ℤ c.args.n)
high_is c = rw (kept c.requires.ends.low, kept c.requires.ends.high, to_z-of_z _ _ c.ranges.n, kept c.requires.low, kept c.requires.high) at c.max.ensures.value

low_reach : (c : After-max) → IsInReach c.min.result
low_reach c = reach_min (low_is c) c.requires.low c.requires.high

high_reach : (c : After-max) → IsInReach c.max.result
high_reach c = reach_max (high_is c) c.requires.low c.requires.high

size_is : (c : After-max) → c.unsigned_abs.result ≡ nat_abs c.args.n
size_is c = rw (to_z-of_z _ _ c.ranges.n) at c.unsigned_abs.ensures.value

pub overflow_mul-stride : goal.overflow_mul-stride
overflow_mul-stride c =
    let e = rw (to_z-of_z _ _ c.ranges.n) at c.unsigned_abs.ensures.value in
    let h = times_stride c.args.s.lo c.args.s.hi c.args.n c.args.s.stride c.requires.ends c.requires.low c.requires.high in
    rw e (omega (arith, h))

pub between-requires-clause-low : goal.between-requires-clause-low
between-requires-clause-low c = rw (kept (low_reach c)) (low_reach c)

pub between-requires-clause-high : goal.between-requires-clause-high
between-requires-clause-high c = rw (kept (high_reach c)) (high_reach c)

pub between-requires-clause-ordered : goal.between-requires-clause-ordered
between-requires-clause-ordered c =
    rw (kept (low_reach c), kept (high_reach c), low_is c, high_is c) (omega (arith, ints, clamps))

pub between-requires-clause-congruent : goal.between-requires-clause-congruent
between-requires-clause-congruent c =
    rw (kept (low_reach c), kept (high_reach c), low_is c, high_is c, size_is c)
    (times_congruent c.args.s.lo c.args.s.hi c.args.n c.args.s.stride c.requires.ends)

pub returns : goal.returns
returns c =
    let m = (goal.at.returns c).After-max in
    let exact = rw (kept (low_reach m), kept (high_reach m), low_is m, high_is m, size_is m) at c.between.ensures in
    λ a h. times_is a c.between.result c.args.s.lo c.args.s.hi c.args.n c.args.s.stride h exact

pub overflow_mul-first : goal.overflow_mul-first
overflow_mul-first c = rw (kept c.requires.ends.low, to_z-of_z _ _ c.ranges.n) (reach_fits _ c.requires.low)

pub overflow_mul-last : goal.overflow_mul-last
overflow_mul-last c = rw (kept c.requires.ends.high, to_z-of_z _ _ c.ranges.n) (reach_fits _ c.requires.high)
