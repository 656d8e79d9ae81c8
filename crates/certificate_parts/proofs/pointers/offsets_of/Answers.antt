use Rattle.std.proofs.Common.{subst}
use Rattle.strided_dom.specs.Progression.{IsSubset}
use Rattle.certificate_parts.proofs.ObjectsRead.{all_offsets}
use Rattle.certificate_parts.proofs.pointers.offsets_of.Goals as goal

pub returns-then-below : goal.returns-then-below
returns-then-below c =
    all_offsets c.args.size c.args.set.now c.within-offsets.result c.requires c.within-offsets.ensures c.set.ensures.within
    (subst (IsSubset c.args.set.now) c.set.ensures.value (c.below.ensures.0 c.if-below.true))
