use Rattle.store_limits.proofs.Ends.{ends}
use Rattle.store_limits.proofs.laws.passes_end.Goals as goal

pub returns : goal.returns
returns c = ends
