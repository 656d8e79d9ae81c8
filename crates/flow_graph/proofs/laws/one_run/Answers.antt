use Rattle.flow_graph.proofs.Same.{same_next}
use Rattle.flow_graph.proofs.laws.one_run.Goals as goal

pub returns : goal.returns
returns c = λ laid g answers n m h k. same_next laid g h k
