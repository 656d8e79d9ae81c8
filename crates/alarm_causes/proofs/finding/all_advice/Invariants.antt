use Rattle.std.proofs.Common.{length, take}
use Rattle.alarm_causes.specs.Advised.{AreAdvised}
use Rattle.alarm_causes.proofs.finding.all_advice.Given as goal

abbrev pub invariant-loop-alarm : goal.invariant-loop-alarm
invariant-loop-alarm l = AreAdvised (length l.groups) (take l.alarm-index l.alarms) l.list.items
