use Rattle.std.proofs.Common.{arith}
use Rattle.std.proofs.lemmas.Int.{ints}
use Rattle.strided_dom.proofs.Hulls.{sum_is, sum_congruent}
use Rattle.strided_dom.proofs.Reach.{kept, reach_fits}
use Rattle.strided_dom.proofs.combinations.sum_of.Goals as goal

pub between-requires-clause-low : goal.between-requires-clause-low
between-requires-clause-low c = rw (kept c.requires.left.low, kept c.requires.right.low, kept c.requires.low) c.requires.low

pub between-requires-clause-high : goal.between-requires-clause-high
between-requires-clause-high c = rw (kept c.requires.left.high, kept c.requires.right.high, kept c.requires.high) c.requires.high

pub between-requires-clause-ordered : goal.between-requires-clause-ordered
between-requires-clause-ordered c =
    rw (kept c.requires.left.low, kept c.requires.right.low, kept c.requires.low, kept c.requires.left.high, kept c.requires.right.high, kept c.requires.high)
    (omega (arith, ints, c.requires.left.ordered, c.requires.right.ordered))

pub between-requires-clause-congruent : goal.between-requires-clause-congruent
between-requires-clause-congruent c =
    rw (kept c.requires.left.low, kept c.requires.right.low, kept c.requires.low, kept c.requires.left.high, kept c.requires.right.high, kept c.requires.high)
    (sum_congruent c.args.s.lo c.args.s.hi c.args.s.stride c.args.t.lo c.args.t.hi c.args.t.stride c.gcd.result c.requires.left c.requires.right c.gcd.ensures.greatest)

pub returns : goal.returns
returns c =
    let exact = rw (kept c.requires.left.low, kept c.requires.right.low, kept c.requires.low, kept c.requires.left.high, kept c.requires.right.high, kept c.requires.high) at c.between.ensures in
    λ a b h k. sum_is a b c.between.result c.args.s.lo c.args.s.hi c.args.s.stride c.args.t.lo c.args.t.hi c.args.t.stride c.gcd.result h k c.gcd.ensures.greatest exact

pub overflow_add-s : goal.overflow_add-s
overflow_add-s c = rw (kept c.requires.left.low, kept c.requires.right.low) (reach_fits _ c.requires.low)

pub overflow_add-s-2 : goal.overflow_add-s-2
overflow_add-s-2 c = rw (kept c.requires.left.high, kept c.requires.right.high) (reach_fits _ c.requires.high)
