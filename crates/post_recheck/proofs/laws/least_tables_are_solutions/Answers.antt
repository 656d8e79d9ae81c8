use Rattle.std.proofs.Common.{refl}
use Rattle.post_recheck.proofs.LeastPairs.{least_pair}
use Rattle.post_recheck.proofs.laws.least_tables_are_solutions.Goals as goal

pub returns : goal.returns
returns c = λ p is pair fits closed first least. (least_pair p is pair fits closed first least, refl)
