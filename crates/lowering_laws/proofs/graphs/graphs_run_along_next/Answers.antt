use Rattle.lowering_laws.proofs.GraphLaws.{run_along_next}
use Rattle.lowering_laws.proofs.graphs.graphs_run_along_next.Goals as goal

pub returns : goal.returns
returns c = run_along_next
