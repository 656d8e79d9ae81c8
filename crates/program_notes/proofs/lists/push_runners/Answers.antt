use Rattle.program_notes.specs.Lists.{runner_text}
use Rattle.notes_json.proofs.Listed.{next_listed, all_listed}
use Rattle.program_notes.proofs.lists.push_runners.Goals as goal

pub loop-at-preserved : goal.loop-at-preserved
loop-at-preserved c =
    next_listed (runner_text c.args.bytes.now)
    c.args.runners.now c.loop-at.at _ c.args.text.now.items c.loop-at-test.true c.loop-at.invariant
    c.in_ok-push_comma.ensures c.in_ok-push_runner.ensures

pub returns : goal.returns
returns c =
    all_listed (runner_text c.args.bytes.now)
    c.args.runners.now c.loop-at.at c.args.text.now.items c.loop-at-test.false c.loop-at.invariant
