use Rattle.concrete_steps.specs.NextAction.{next}
use Rattle.flow_graph.proofs.Positions.{runs_along}
use Rattle.lowering.specs.Built.{graph_of}
use Rattle.lowering.proofs.Bodies.{graph_is_next, graph_is_plain}
use Rattle.lowering.proofs.laws.runs_along_next.Goals as goal

pub returns : goal.returns
returns c = λ laid lowerable body.
    runs_along laid (graph_of laid body) (graph_is_plain laid lowerable body) (next laid body)
    (graph_is_next laid lowerable body)
