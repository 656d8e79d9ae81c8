use Rattle.program_notes.specs.GroupTexts.{access_object}
use Rattle.notes_json.proofs.Listed.{next_placed, all_placed}
use Rattle.program_notes.proofs.race_objects.push_accesses.Goals as goal

pub loop-at-preserved : goal.loop-at-preserved
loop-at-preserved c =
    next_placed (access_object c.args.members.now)
    c.args.accesses.now c.loop-at.at _ c.args.text.now.items c.loop-at-test.true c.loop-at.invariant
    c.in_ok-push_comma.ensures c.in_ok-push_placed.ensures

pub returns : goal.returns
returns c =
    all_placed (access_object c.args.members.now)
    c.args.accesses.now c.loop-at.at c.args.text.now.items c.loop-at-test.false c.loop-at.invariant
