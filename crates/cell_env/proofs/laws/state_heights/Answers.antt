use Rattle.cell_env.specs.laws.StateLaws.{state_heights}
use Rattle.cell_env.proofs.laws.state_heights.Goals as goal

pub returns : goal.returns
returns g c = λ height heights. state_heights g.V.Lattice.is_value g.V.Lattice.leq height heights
