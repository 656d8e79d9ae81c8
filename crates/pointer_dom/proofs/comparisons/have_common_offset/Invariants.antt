use Rattle.std.proofs.Common.{take}
use Rattle.pointer_dom.proofs.CommonFacts.{NoneMeets}
use Rattle.pointer_dom.proofs.comparisons.have_common_offset.Given as goal

abbrev pub invariant-loop-object : goal.invariant-loop-object
invariant-loop-object l = NoneMeets l.other (take l.object-index l.object-items)
