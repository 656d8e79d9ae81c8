use Rattle.front_constraints.specs.laws.Lawful.{are_lawful}
use Rattle.front_constraints.specs.laws.LeastFronts.{least_is_least_fronts}
use Rattle.front_constraints.proofs.laws.least_fronts.Goals as goal

pub returns : goal.returns
returns g c = record {
  lawful = λ system is.
      are_lawful g.S.State.Lattice g.S.Front.Lattice g.S.Cell.Lattice (g.S.FrontSystem.fits system)
      (g.S.FrontSystem.fits_front system) (g.S.FrontSystem.fits_cell system) (g.S.FrontSystem.system_of system)
      (g.met.S.FrontSystem.lawful system is) (g.S.FrontSystem.checks system);
  least = λ system is a least allowed kept.
      least_is_least_fronts g.S.State.Lattice g.S.Front.Lattice g.S.Cell.Lattice (g.S.FrontSystem.fits system)
      (g.S.FrontSystem.fits_front system) (g.S.FrontSystem.fits_cell system) (g.S.FrontSystem.system_of system)
      (g.S.FrontSystem.keeps system) (g.S.FrontSystem.checks system) (g.met.S.FrontSystem.lawful system is)
      (g.met.S.FrontSystem.local system is) a least allowed kept;
}
