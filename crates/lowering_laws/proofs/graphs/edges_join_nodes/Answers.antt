use Rattle.lowering_laws.proofs.Ranges.{joins_nodes}
use Rattle.lowering_laws.proofs.graphs.edges_join_nodes.Goals as goal

pub returns : goal.returns
returns c = joins_nodes
