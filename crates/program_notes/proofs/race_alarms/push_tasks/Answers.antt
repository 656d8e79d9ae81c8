use Rattle.std.specs.Prelude.{decimal}
use Rattle.notes_json.proofs.Listed.{next_listed, all_listed}
use Rattle.program_notes.proofs.race_alarms.push_tasks.Goals as goal

pub loop-at-preserved : goal.loop-at-preserved
loop-at-preserved c =
    next_listed decimal
    c.args.tasks.now c.loop-at.at _ c.args.text.now.items c.loop-at-test.true c.loop-at.invariant
    c.in_ok-push_comma.ensures c.in_ok-push_number.ensures

pub returns : goal.returns
returns c =
    all_listed decimal
    c.args.tasks.now c.loop-at.at c.args.text.now.items c.loop-at-test.false c.loop-at.invariant
