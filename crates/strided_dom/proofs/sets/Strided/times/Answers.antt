use Rattle.std.proofs.Common.{refl}
use Rattle.std.proofs.lemmas.Int.{to_z-of_z}
use Rattle.strided_dom.proofs.Hulls.{span_from_of, low_in, high_in}
use Rattle.strided_dom.proofs.Products.{times_empty}
use Rattle.strided_dom.proofs.sets.Strided.times.Goals as goal

pub times_of-requires-clause-ends : goal.times_of-requires-clause-ends
times_of-requires-clause-ends c = span_from_of _ _ _ _ c.in-Some.ensures

pub times_of-requires-clause-low : goal.times_of-requires-clause-low
times_of-requires-clause-low c =
    rw (to_z-of_z _ _ c.ranges.n) (c.requires _ (record { factor = c.in-Some.s.lo; in_set = low_in _ _ _ _ c.in-Some.ensures; product = refl }))

pub times_of-requires-clause-high : goal.times_of-requires-clause-high
times_of-requires-clause-high c =
    rw (to_z-of_z _ _ c.ranges.n) (c.requires _ (record { factor = c.in-Some.s.hi; in_set = high_in _ _ _ _ c.in-Some.ensures; product = refl }))

pub returns-in-None : goal.returns-in-None
returns-in-None c = times_empty c.args.self.now c.args.n c.in-None.ensures

pub returns-in-Some : goal.returns-in-Some
returns-in-Some c = (rw (to_z-of_z _ _ c.ranges.n) at c.times_of.ensures) c.args.self.now c.in-Some.ensures
