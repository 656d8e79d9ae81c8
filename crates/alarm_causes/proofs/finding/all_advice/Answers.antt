use Rattle.std.proofs.Common.{◌≤◌, length, subst, arith}
use Rattle.std.proofs.lemmas.List.{take_all}
use Rattle.alarm_causes.specs.Advised.{AreAdvised}
use Rattle.alarm_causes.proofs.Listing.{advised_next}
use Rattle.alarm_causes.proofs.finding.all_advice.Goals as goal

pub loop-alarm-preserved : goal.loop-alarm-preserved
loop-alarm-preserved c =
    advised_next (length c.args.groups.now) c.args.alarms.now c.loop-alarm.alarm-index c.alarm-item.result
    c.loop-alarm.list.items _ _ c.loop-alarm-test.true c.alarm-item.is c.loop-alarm.invariant
    c.in_ok-advice_on.ensures c.in_ok-push.ensures.items

pub returns : goal.returns
returns c =
    let xs = c.args.alarms.now in
    let end : length xs ≤ c.loop-alarm.alarm-index = omega arith in
    subst (λ l. AreAdvised (length c.args.groups.now) l c.loop-alarm.list.items)
    (take_all c.loop-alarm.alarm-index xs end) c.loop-alarm.invariant
