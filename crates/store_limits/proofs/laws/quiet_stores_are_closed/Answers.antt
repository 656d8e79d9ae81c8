use Rattle.store_limits.proofs.Climbing.{quiet_is_closed}
use Rattle.store_limits.proofs.laws.quiet_stores_are_closed.Goals as goal

pub returns : goal.returns
returns c = quiet_is_closed
