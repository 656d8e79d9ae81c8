use Rattle.std.proofs.Common.{refl, arith}
use Rattle.post_recheck.specs.program_systems.ProgramFacts.{program_with}
use Rattle.notes_json.proofs.Listed.{next_placed, all_placed}
use Rattle.program_notes.specs.Operations.{operation_of}
use Rattle.program_notes.specs.AlarmTexts.{alarm_object}
use Rattle.program_notes.proofs.Firsts.{next_other}
use Rattle.program_notes.proofs.alarm_objects.push_alarms.Goals as goal

pub loop-at-preserved : goal.loop-at-preserved
loop-at-preserved c =
    let bytes = c.args.bytes.now in
    let numbers = c.args.numbers.now in
    let report = c.args.report.now in
    let others = c.args.others.now in
    let details = c.args.details.now in
    let of = operation_of (program_with c.args.program.now c.args.facts.now) in
    let at = c.loop-at.at in
    let so_far = c.loop-at.invariant in
    let within = so_far.within in
    let most = c.count_other-next.ensures.most in
    let told = rw c.loop-at.invariant.count at c.in_ok-push_alarm_at.ensures in
    record {
      written =
          next_placed (alarm_object of bytes numbers report others details) report at _ c.args.text.now.items
          c.loop-at-test.true so_far.written c.in_ok-push_comma.ensures told;
      count =
          next_other report at _ c.loop-at.next c.count_other-next.result _ c.loop-at-test.true so_far.count
          c.count_other-next.ensures.value refl;
      within = omega (arith, within, most);
    }

pub returns : goal.returns
returns c =
    all_placed (alarm_object (operation_of (program_with c.args.program.now c.args.facts.now)) c.args.bytes.now
    c.args.numbers.now c.args.report.now c.args.others.now c.args.details.now)
    c.args.report.now c.loop-at.at c.args.text.now.items c.loop-at-test.false c.loop-at.invariant.written
