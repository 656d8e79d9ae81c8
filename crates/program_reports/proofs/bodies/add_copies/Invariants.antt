use Rattle.std.proofs.Common.{◌≡◌, ◌↔◌, ◌⊎◌, true}
use Rattle.std.specs.Prelude.{Contains}
use Rattle.tm_terms.specs.declared.alarms.Alarm.{Alarm as AnAlarm}
use Rattle.post_recheck.specs.table_covers.Solutions.{at}
use Rattle.post_recheck.specs.body_systems.Systems.{body_of}
use Rattle.access_races.specs.declared.accesses.Access.{Access as AnAccess}
use Rattle.program_reports.specs.reading.Found.{IsAlarmBelow, IsAccessBelow}
use Rattle.program_reports.proofs.bodies.add_copies.Given as goal

abbrev pub invariant-loop-copy : goal.invariant-loop-copy
invariant-loop-copy l =
    record {
      alarms : (a : AnAlarm) → Contains l.found.alarms.items a ↔ (Contains l.initial.found.alarms.items a
          ⊎ IsAlarmBelow (body_of l.parts.body.now) (at l.table) l.copy a);
      accesses : (x : AnAccess) → Contains l.found.accesses.items x ↔ (Contains l.initial.found.accesses.items x
          ⊎ ((l.parts.is_task ≡ true) × IsAccessBelow (body_of l.parts.body.now) (at l.table) l.copy x));
    }
