use Rattle.lowering.proofs.Own.{clears_own}
use Rattle.lowering_laws.proofs.graphs.graphs_clear_own.Goals as goal

pub returns : goal.returns
returns c = λ laid h body object l e. clears_own laid body object e
