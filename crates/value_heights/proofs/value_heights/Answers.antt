use Rattle.value_heights.specs.laws.ValueHeights.{value_heights}
use Rattle.value_heights.proofs.value_heights.Goals as goal

pub returns : goal.returns
returns c = value_heights
