use Rattle.flow_graph.proofs.Tests.{opposite_holds}
use Rattle.flow_graph.proofs.laws.one_of_both.Goals as goal

pub returns : goal.returns
returns c = opposite_holds
