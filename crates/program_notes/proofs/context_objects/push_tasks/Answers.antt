use Rattle.program_notes.proofs.Firsts.{next_task, all_tasks}
use Rattle.program_notes.proofs.context_objects.push_tasks.Goals as goal

pub loop-at-preserved : goal.loop-at-preserved
loop-at-preserved c =
    next_task c.args.edges.now c.loop-at.at c.args.text.now.items c.loop-at.invariant c.in_ok-push_task_if.ensures

pub returns : goal.returns
returns c =
    all_tasks c.args.edges.now c.loop-at.at c.args.text.now.items c.loop-at.auto.at-end c.loop-at-test.false
    c.loop-at.invariant
