use Rattle.lowering_laws.proofs.Configured.{configurable}
use Rattle.lowering_laws.proofs.graphs.graphs_can_be_configured.Goals as goal

pub returns : goal.returns
returns c = configurable
