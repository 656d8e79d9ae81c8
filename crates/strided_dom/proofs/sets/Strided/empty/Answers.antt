use Rattle.std.proofs.Common.{refl}
use Rattle.strided_dom.specs.reading.Fields.{progression_of}
use Rattle.strided_dom.proofs.sets.Strided.empty.Goals as goal

pub returns : goal.returns
unfolding progression_of
returns c = refl
