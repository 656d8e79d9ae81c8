use Rattle.lowering_laws.proofs.TableGraphs.{constants_of_file}
use Rattle.lowering_laws.proofs.graphs.constants_lead_nowhere.Goals as goal

pub returns : goal.returns
returns c = λ laid h body. constants_of_file laid h body
