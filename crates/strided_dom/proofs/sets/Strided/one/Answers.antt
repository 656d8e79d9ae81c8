use Rattle.std.proofs.lemmas.Int.{to_z-of_z}
use Rattle.strided_dom.proofs.Kept.{progression_of-one}
use Rattle.strided_dom.proofs.sets.Strided.one.Goals as goal

pub returns : goal.returns
returns c = rw (to_z-of_z _ _ c.ranges.v) (progression_of-one c.args.v)
