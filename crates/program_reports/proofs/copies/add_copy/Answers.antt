use Rattle.std.proofs.Common.{◌≡◌, ◌↔◌, ◌⊎◌, ap, sym, subst, ◌∙◌, true}
use Rattle.std.specs.Prelude.{Contains}
use Rattle.tm_terms.specs.declared.alarms.Alarm.{Alarm}
use Rattle.post_recheck.specs.body_systems.Systems.{body_of}
use Rattle.access_races.specs.declared.accesses.Access.{Access}
use Rattle.program_reports.specs.declared.copies.Found.{Found}
use Rattle.program_reports.specs.Reports.{place_of}
use Rattle.program_reports.specs.reading.Found.{GivesAlarm, GivesAccess}
use Rattle.program_reports.proofs.Tables.{relabelled, no_task, alarm_given, access_given}
use Rattle.program_reports.proofs.copies.add_copy.Goals as goal
use Rattle.program_reports.proofs.copies.add_copy.Goals.{then-parts+in_ok-add_targets, else-parts}

pub returns-clause-alarms : goal.returns-clause-alarms
returns-clause-alarms c =
    let b = body_of c.args.parts.body.now in
    let placed = ap place_of (sym c.operation_of.ensures) ∙ sym c.place_of.ensures ∙ c.in-Some.is in
    let Given = λ (f : Found). (a : Alarm) → Contains f.alarms.items a
    ↔ (Contains c.args.found.now.alarms.items a ⊎ GivesAlarm b c.args.copy c.args.state.now a) in
    elim c.if-parts.branch [
      | then-parts+in_ok-add_targets w ↦ subst Given (sym w.found-is) (λ a.
          relabelled (c.in_ok-add_classes.ensures a)
          (alarm_given b c.args.copy c.args.state.now c.args.parts.body.now.store c.in_ok-after.after
          c.in_ok-after.ensures c.in-Some.place placed a))
      | else-parts w ↦ subst Given (sym w.found-is) (λ a.
          relabelled (c.in_ok-add_classes.ensures a)
          (alarm_given b c.args.copy c.args.state.now c.args.parts.body.now.store c.in_ok-after.after
          c.in_ok-after.ensures c.in-Some.place placed a))
    ]

pub returns-clause-accesses : goal.returns-clause-accesses
returns-clause-accesses c =
    let b = body_of c.args.parts.body.now in
    let placed = ap place_of (sym c.operation_of.ensures) ∙ sym c.place_of.ensures ∙ c.in-Some.is in
    let Given = λ (f : Found). (x : Access) → Contains f.accesses.items x
    ↔ (Contains c.args.found.now.accesses.items x
    ⊎ ((c.args.parts.is_task ≡ true) × GivesAccess b c.args.copy c.args.state.now x)) in
    elim c.if-parts.branch [
      | then-parts+in_ok-add_targets w ↦ subst Given (sym w.found-is) (λ x.
          relabelled (w.in_ok-add_targets.ensures x)
          (access_given b c.args.copy c.args.state.now c.args.parts.body.now.store c.in_ok-after.after
          c.in_ok-after.ensures c.in-Some.place placed c.args.parts.is_task w.if-parts.true w.way_of.result
          w.way_of.ensures w.deref.result.now w.deref.ensures x))
      | else-parts w ↦ subst Given (sym w.found-is) (λ x. no_task c.args.parts.is_task w.if-parts.false)
    ]
