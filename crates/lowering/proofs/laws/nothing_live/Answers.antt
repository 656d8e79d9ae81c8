use Rattle.lowering.proofs.Bodies.{nothing_live}
use Rattle.lowering.proofs.laws.nothing_live.Goals as goal

pub returns : goal.returns
returns c = nothing_live
