use Rattle.std.proofs.Common.{◌≤ℤ◌, arith}
use Rattle.std.proofs.lemmas.Int.{ints}
use Rattle.strided_dom.specs.Progression.{IsInReach}
use Rattle.tm_numbers.proofs.Congruences.{cong_refl}
use Rattle.strided_dom.proofs.Reach.{kept, reach_between}
use Rattle.strided_dom.proofs.Thresholds.{class_exactly}
use Rattle.strided_dom.proofs.rounding.round_ends.Goals.{After-first_above}
use Rattle.strided_dom.proofs.rounding.round_ends.Goals as goal

first_le : (c : After-first_above) → c.first_above.result ≤ℤ c.args.s.lo
first_le c =
    let least = rw (kept c.requires.low_reach, kept c.requires.ends.low) at c.first_above.ensures in
    least.bound c.args.s.lo (record { from = c.requires.below; congruent = cong_refl c.args.s.stride c.args.s.lo })

first_reach : (c : After-first_above) → IsInReach c.first_above.result
first_reach c =
    let least = rw (kept c.requires.low_reach, kept c.requires.ends.low) at c.first_above.ensures in
    reach_between c.requires.low_reach c.requires.ends.low least.member.from (first_le c)

pub spaced-requires-clause-low : goal.spaced-requires-clause-low
spaced-requires-clause-low c = rw (kept (first_reach c)) (first_reach c)

pub spaced-requires-clause-ordered : goal.spaced-requires-clause-ordered
spaced-requires-clause-ordered c =
    let f = first_le c in
    rw (kept (first_reach c), kept c.requires.high_reach) (omega (arith, ints, f, c.requires.ends.ordered, c.requires.above))

pub returns : goal.returns
returns c =
    let a = (goal.at.returns c).After-first_above in
    let least = rw (kept c.requires.low_reach, kept c.requires.ends.low) at c.first_above.ensures in
    let exact = rw (kept (first_reach a), kept c.requires.high_reach) at c.spaced.ensures in
    class_exactly c.args.low c.args.high c.args.s.lo c.first_above.result c.args.s.stride c.spaced.result least exact
