use Rattle.lowering_laws.proofs.GraphLaws.{run_as_next}
use Rattle.lowering_laws.proofs.graphs.graphs_run_as_next.Goals as goal

pub returns : goal.returns
returns c = run_as_next
