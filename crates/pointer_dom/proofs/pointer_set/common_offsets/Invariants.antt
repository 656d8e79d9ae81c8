use Rattle.std.proofs.Common.{take}
use Rattle.pointer_dom.proofs.MeetFacts.{IsMetUpTo}
use Rattle.pointer_dom.proofs.pointer_set.common_offsets.Given as goal

abbrev pub invariant-loop-object : goal.invariant-loop-object
invariant-loop-object l = IsMetUpTo l.other (take l.object-index l.object-items) l.both
