use Rattle.big_source.proofs.LinesSoFar.{one_more_task}
use Rattle.big_source.proofs.generated.push_tasks.Goals as goal

pub loop-j-preserved : goal.loop-j-preserved
loop-j-preserved c = one_more_task _ _ _ c.args.n c.loop-j.j c.loop-j.invariant c.in_ok-push_task.ensures
