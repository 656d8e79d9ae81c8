use Rattle.big_source.proofs.LinesSoFar.{one_more_function}
use Rattle.big_source.proofs.generated.push_functions.Goals as goal

pub loop-k-preserved : goal.loop-k-preserved
loop-k-preserved c = one_more_function _ _ _ c.loop-k.k c.loop-k.invariant c.in_ok-push_function.ensures
