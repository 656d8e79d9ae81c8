use Rattle.std.proofs.Common.{◌≡◌, nat_abs, ◌-ℤ◌, arith}
use Rattle.std.specs.Int.{int_min, int_max, IsGcd}
use Rattle.std.proofs.lemmas.Int.{ints, clamps}
use Rattle.strided_dom.specs.Progression.{IsInReach}
use Rattle.strided_dom.proofs.Hulls.{hull_is, hull_congruent}
use Rattle.strided_dom.proofs.Reach.{kept, reach_min, reach_max}
use Rattle.strided_dom.proofs.combinations.hull_of.Goals.{After-max}
use Rattle.strided_dom.proofs.combinations.hull_of.Goals as goal

low_is : (c : After-max) → c.min.result ≡ int_min c.args.s.lo c.args.t.lo
low_is c = rw (kept c.requires.left.low, kept c.requires.right.low) at c.min.ensures.value

high_is : (c : After-max) → c.max.result ≡ int_max c.args.s.hi c.args.t.hi
high_is c = rw (kept c.requires.left.high, kept c.requires.right.high) at c.max.ensures.value

low_reach : (c : After-max) → IsInReach c.min.result
low_reach c = reach_min (low_is c) c.requires.left.low c.requires.right.low

high_reach : (c : After-max) → IsInReach c.max.result
high_reach c = reach_max (high_is c) c.requires.left.high c.requires.right.high

outer : (c : After-max) → IsGcd c.gcd.result (nat_abs (c.args.s.lo -ℤ c.args.t.lo)) c.gcd-stride.result
outer c = rw (c.abs_diff-apart.ensures, kept c.requires.left.low, kept c.requires.right.low) at c.gcd-stride.ensures.greatest

pub between-requires-clause-low : goal.between-requires-clause-low
between-requires-clause-low c = rw (kept (low_reach c)) (low_reach c)

pub between-requires-clause-high : goal.between-requires-clause-high
between-requires-clause-high c = rw (kept (high_reach c)) (high_reach c)

pub between-requires-clause-ordered : goal.between-requires-clause-ordered
between-requires-clause-ordered c =
    rw (kept (low_reach c), kept (high_reach c), low_is c, high_is c) (omega (arith, ints, clamps, c.requires.left.ordered))

pub between-requires-clause-congruent : goal.between-requires-clause-congruent
between-requires-clause-congruent c =
    rw (kept (low_reach c), kept (high_reach c), low_is c, high_is c)
    (hull_congruent c.args.s.lo c.args.s.hi c.args.s.stride c.args.t.lo c.args.t.hi c.args.t.stride c.gcd.result c.gcd-stride.result c.gcd.ensures.greatest (outer c) c.requires.left c.requires.right)

pub returns : goal.returns
returns c =
    let m = (goal.at.returns c).After-max in
    let exact = rw (kept (low_reach m), kept (high_reach m), low_is m, high_is m) at c.between.ensures in
    λ a b h k. hull_is c.args.s.lo c.args.s.hi c.args.s.stride c.args.t.lo c.args.t.hi c.args.t.stride c.gcd.result c.gcd-stride.result c.gcd.ensures.greatest (outer m) a b c.between.result h k exact
