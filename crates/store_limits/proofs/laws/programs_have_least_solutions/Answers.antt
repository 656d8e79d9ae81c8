use Rattle.store_limits.proofs.Least.{has_least}
use Rattle.store_limits.proofs.laws.programs_have_least_solutions.Goals as goal

pub returns : goal.returns
returns c = has_least
