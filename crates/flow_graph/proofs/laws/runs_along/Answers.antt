use Rattle.flow_graph.proofs.Positions.{runs_along}
use Rattle.flow_graph.proofs.laws.runs_along.Goals as goal

pub returns : goal.returns
returns c = λ laid g next_is plain run. runs_along laid g plain next_is run
