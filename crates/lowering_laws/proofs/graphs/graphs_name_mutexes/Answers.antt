use Rattle.lowering_laws.proofs.TableGraphs.{mutexes_of_file, few_mutexes}
use Rattle.lowering_laws.proofs.graphs.graphs_name_mutexes.Goals as goal

pub returns : goal.returns
returns c = λ laid h body. (mutexes_of_file laid h body, few_mutexes laid h)
