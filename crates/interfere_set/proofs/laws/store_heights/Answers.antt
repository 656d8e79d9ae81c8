use Rattle.interfere_set.specs.laws.StoreLaws.{store_heights}
use Rattle.interfere_set.proofs.laws.store_heights.Goals as goal

pub returns : goal.returns
returns c = λ height heights. store_heights height heights
