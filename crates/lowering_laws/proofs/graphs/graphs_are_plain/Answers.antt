use Rattle.lowering_laws.proofs.GraphLaws.{are_plain}
use Rattle.lowering_laws.proofs.graphs.graphs_are_plain.Goals as goal

pub returns : goal.returns
returns c = are_plain
