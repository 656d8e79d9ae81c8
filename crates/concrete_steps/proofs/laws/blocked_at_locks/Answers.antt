use Rattle.concrete_steps.proofs.Reached.{blocked_at_locks}
use Rattle.concrete_steps.proofs.laws.blocked_at_locks.Goals as goal

pub returns : goal.returns
returns c = blocked_at_locks
