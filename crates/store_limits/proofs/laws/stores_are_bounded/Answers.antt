use Rattle.store_limits.proofs.Bounded.{store_bounded}
use Rattle.store_limits.proofs.laws.stores_are_bounded.Goals as goal

pub returns : goal.returns
returns c = λ p is store fits. store_bounded p store fits
