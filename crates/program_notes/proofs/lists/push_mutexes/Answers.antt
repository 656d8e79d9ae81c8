use Rattle.program_notes.specs.Lists.{mutex_text}
use Rattle.notes_json.proofs.Listed.{next_listed, all_listed}
use Rattle.program_notes.proofs.lists.push_mutexes.Goals as goal

pub loop-at-preserved : goal.loop-at-preserved
loop-at-preserved c =
    next_listed (mutex_text c.args.bytes.now)
    c.args.mutexes.now c.loop-at.at _ c.args.text.now.items c.loop-at-test.true c.loop-at.invariant
    c.in_ok-push_comma.ensures c.in_ok-push_declared.ensures

pub returns : goal.returns
returns c =
    all_listed (mutex_text c.args.bytes.now)
    c.args.mutexes.now c.loop-at.at c.args.text.now.items c.loop-at-test.false c.loop-at.invariant
