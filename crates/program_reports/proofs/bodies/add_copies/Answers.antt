use Rattle.std.proofs.Common.{◌≡◌, ◌↔◌, ◌⊎◌, ◌+◌, ap, sym, subst, ◌∙◌, true, length, Some, arith}
use Rattle.std.specs.Prelude.{Contains}
use Rattle.tm_terms.specs.declared.alarms.Alarm.{Alarm}
use Rattle.post_recheck.specs.table_covers.Solutions.{at}
use Rattle.post_recheck.specs.body_systems.Systems.{body_of}
use Rattle.access_races.specs.declared.accesses.Access.{Access}
use Rattle.access_races.proofs.Joins.{joined, unchanged}
use Rattle.program_reports.specs.declared.copies.Found.{Found}
use Rattle.program_reports.specs.reading.Found.{GivesAlarm, GivesAccess, IsAlarmBelow, IsAccessBelow}
use Rattle.program_reports.proofs.Steps.{copies_more, copies_same, beside, beside_same}
use Rattle.program_reports.proofs.Tables.{reached, fits_there}
use Rattle.program_reports.proofs.bodies.add_copies.Goals as goal
use Rattle.program_reports.proofs.bodies.add_copies.Goals.{in-Some+in_ok-add_copy-in-Some, in-None}

pub add_copy-requires-clause-fits : goal.add_copy-requires-clause-fits
add_copy-requires-clause-fits c =
    fits_there (body_of c.args.parts.body.now) c.args.parts c.requires.parts c.args.table.now c.requires.table
    c.loop-copy.copy c.loop-copy-test.true c.index-table-parts.result c.index-table-parts.is c.state.result.now
    (c.in-Some.is ∙ ap Some (sym c.state.ensures))

pub loop-copy-preserved : goal.loop-copy-preserved
loop-copy-preserved c =
    let b = body_of c.args.parts.body.now in
    let table = c.args.table.now in
    let k = c.loop-copy.copy in
    let there = reached b c.args.parts c.requires.parts table c.requires.table k c.loop-copy-test.true
    c.index-table-parts.result c.index-table-parts.is in
    let Alarms = λ (f : Found). (a : Alarm) → Contains f.alarms.items a
    ↔ (Contains c.args.found.now.alarms.items a ⊎ IsAlarmBelow b (at table) (k + 1) a) in
    let Accesses = λ (f : Found). (x : Access) → Contains f.accesses.items x
    ↔ (Contains c.args.found.now.accesses.items x
    ⊎ ((c.args.parts.is_task ≡ true) × IsAccessBelow b (at table) (k + 1) x)) in
    record {
      alarms = elim c.match-table-parts.branch [
        | in-Some+in_ok-add_copy-in-Some w ↦ subst Alarms (sym w.found-is) (λ a.
            joined (w.in_ok-add_copy-in-Some.ensures.alarms a) (c.loop-copy.invariant.alarms a)
            (copies_more b (at table) (λ n s. GivesAlarm b n s a) k w.state.result.now
            (there ∙ w.in-Some.is ∙ ap Some (sym w.state.ensures))))
        | in-None w ↦ subst Alarms (sym w.found-is) (λ a.
            unchanged (c.loop-copy.invariant.alarms a)
            (copies_same b (at table) (λ n s. GivesAlarm b n s a) k (there ∙ w.in-None.is)))
      ];
      accesses = elim c.match-table-parts.branch [
        | in-Some+in_ok-add_copy-in-Some w ↦ subst Accesses (sym w.found-is) (λ x.
            joined (w.in_ok-add_copy-in-Some.ensures.accesses x) (c.loop-copy.invariant.accesses x)
            (beside (copies_more b (at table) (λ n s. GivesAccess b n s x) k w.state.result.now
            (there ∙ w.in-Some.is ∙ ap Some (sym w.state.ensures)))))
        | in-None w ↦ subst Accesses (sym w.found-is) (λ x.
            unchanged (c.loop-copy.invariant.accesses x)
            (beside_same (copies_same b (at table) (λ n s. GivesAccess b n s x) k (there ∙ w.in-None.is))))
      ];
    }

pub returns-clause-alarms : goal.returns-clause-alarms
returns-clause-alarms c = λ a.
    let end : c.loop-copy.copy ≡ length c.args.parts.copies.now = omega arith in
    subst (λ n. Contains c.loop-copy.found.alarms.items a ↔ (Contains c.args.found.now.alarms.items a
    ⊎ IsAlarmBelow (body_of c.args.parts.body.now) (at c.args.table.now) n a)) end (c.loop-copy.invariant.alarms a)

pub returns-clause-accesses : goal.returns-clause-accesses
returns-clause-accesses c = λ x.
    let end : c.loop-copy.copy ≡ length c.args.parts.copies.now = omega arith in
    subst (λ n. Contains c.loop-copy.found.accesses.items x ↔ (Contains c.args.found.now.accesses.items x
    ⊎ ((c.args.parts.is_task ≡ true) × IsAccessBelow (body_of c.args.parts.body.now) (at c.args.table.now) n x))) end
    (c.loop-copy.invariant.accesses x)
