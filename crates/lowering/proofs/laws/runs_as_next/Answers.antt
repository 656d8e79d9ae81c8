use Rattle.std.proofs.Common.{subst, sym}
use Rattle.flow_graph.specs.Runs.{GraphNext}
use Rattle.flow_graph.proofs.Same.{same_next}
use Rattle.lowering.specs.Built.{graph_of}
use Rattle.lowering.proofs.Bodies.{graph_is_next}
use Rattle.lowering.proofs.laws.runs_as_next.Goals as goal

pub returns : goal.returns
returns c = λ laid lowerable body answers n.
    let run = graph_is_next laid lowerable body answers in (
      λ k. same_next laid (graph_of laid body) k run,
      λ e. subst (λ z. GraphNext laid (graph_of laid body) answers z)
          (sym e) run,
    )
