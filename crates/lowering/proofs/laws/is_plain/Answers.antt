use Rattle.lowering.proofs.Bodies.{graph_is_plain}
use Rattle.lowering.proofs.laws.is_plain.Goals as goal

pub returns : goal.returns
returns c = graph_is_plain
