use Rattle.pointer_dom.proofs.OffsetFacts.{none_is}
use Rattle.pointer_dom.proofs.offsets.Offsets.none.Goals as goal

pub invariant_of-result : goal.invariant_of-result
invariant_of-result c = none_is c.empty.result c.empty.ensures
