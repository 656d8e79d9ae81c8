use Rattle.store_core.proofs.Causes.{one_taken, one_published}
use Rattle.store_core.proofs.laws.one_answer.Goals as goal

pub returns : goal.returns
returns g c = record {
  take = λ before one other worker a b first is second is'. one_taken g.P.Store.Lattice g.P.Passer before one other worker a b first is second is';
  publish = λ before one other worker brought a b first is second is'. one_published g.P.Store.Lattice g.P.Passer before one other worker brought a b first is second is';
}
