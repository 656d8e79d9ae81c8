use Rattle.call_graph.proofs.Paths.{acyclic_order}
use Rattle.call_graph.proofs.laws.callees_first_is_acyclic.Goals as goal

pub returns : goal.returns
returns c = acyclic_order
