use Rattle.interval_dom.proofs.Lengths.{below_length, length_least}
use Rattle.interval_dom.proofs.laws.lengths.Goals as goal

pub returns : goal.returns
returns c = λ n. (below_length n, length_least n)
