use Rattle.alarm_contexts.specs.reading.Operands.{AreJoined}
use Rattle.alarm_contexts.proofs.operands.joined_operands.Given as goal

abbrev pub invariant-loop-role : goal.invariant-loop-role
invariant-loop-role l = AreJoined l.one l.other l.role l.both.items
