use Rattle.lowering_laws.proofs.TableGraphs.{tests_of_file}
use Rattle.lowering_laws.proofs.graphs.graphs_test_comparisons.Goals as goal

pub returns : goal.returns
returns c = λ laid h body. tests_of_file laid h body
