use Rattle.std.proofs.Common.{◌↔◌, ◌⊎◌, ◌+◌, ◌≤◌, length, sym, subst, ◌∙◌, take, arith, Vec}
use Rattle.std.specs.Prelude.{Contains}
use Rattle.std.specs.declared.alloc.Global.{Global}
use Rattle.std.proofs.lemmas.Bool.{true≢false}
use Rattle.std.proofs.lemmas.List.{take_all}
use Rattle.tm_terms.specs.declared.alarms.Alarm.{Alarm}
use Rattle.access_races.specs.reading.Ways.{IsAlarmIn}
use Rattle.access_races.proofs.Joins.{joined, unchanged}
use Rattle.access_races.proofs.Fronts.{alarms_more, alarms_same}
use Rattle.access_races.proofs.reports.push_races.Goals as goal
use Rattle.access_races.proofs.reports.push_races.Goals.{then-is_racing+in_ok-push_alarm, else-is_racing}

pub loop-access-preserved : goal.loop-access-preserved
loop-access-preserved c =
    let xs = c.args.accesses.now in
    let i = c.loop-access.access-index in
    let So_far = λ (v : Vec Alarm Global). (a : Alarm) → Contains v.items a
    ↔ (Contains c.args.alarms.now.items a ⊎ IsAlarmIn c.args.ways.now (take (i + 1) xs) a) in
    elim c.if-is_racing.branch [
      | then-is_racing+in_ok-push_alarm w ↦ subst So_far (sym w.alarms-is) (λ a.
          joined (w.in_ok-push_alarm.ensures a) (c.loop-access.invariant a)
          (alarms_more xs i c.loop-access-test.true c.args.ways.now a (c.is_racing.ensures.0 w.if-is_racing.true)))
      | else-is_racing w ↦ subst So_far (sym w.alarms-is) (λ a.
          unchanged (c.loop-access.invariant a)
          (alarms_same xs i c.loop-access-test.true c.args.ways.now a
          (λ h. true≢false (sym (c.is_racing.ensures.1 h) ∙ w.if-is_racing.false))))
    ]

pub returns : goal.returns
returns c = λ a.
    let end : length c.args.accesses.now ≤ c.loop-access.access-index = omega arith in
    subst (λ xs. Contains c.loop-access.alarms.items a
    ↔ (Contains c.args.alarms.now.items a ⊎ IsAlarmIn c.args.ways.now xs a))
    (take_all c.loop-access.access-index c.args.accesses.now end) (c.loop-access.invariant a)
