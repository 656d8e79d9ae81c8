use Rattle.store_limits.proofs.Climbing.{higher, nearer}
use Rattle.store_limits.proofs.laws.rises_are_bounded.Goals as goal

pub returns : goal.returns
returns c = record { higher = higher; nearer = nearer }
