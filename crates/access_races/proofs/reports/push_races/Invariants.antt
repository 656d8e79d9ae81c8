use Rattle.std.proofs.Common.{◌↔◌, ◌⊎◌, take}
use Rattle.std.specs.Prelude.{Contains}
use Rattle.tm_terms.specs.declared.alarms.Alarm.{Alarm as AnAlarm}
use Rattle.access_races.specs.reading.Ways.{IsAlarmIn}
use Rattle.access_races.proofs.reports.push_races.Given as goal

abbrev pub invariant-loop-access : goal.invariant-loop-access
invariant-loop-access l = (a : AnAlarm) → Contains l.alarms.items a
    ↔ (Contains l.initial.alarms.items a ⊎ IsAlarmIn l.ways (take l.access-index l.accesses) a)
