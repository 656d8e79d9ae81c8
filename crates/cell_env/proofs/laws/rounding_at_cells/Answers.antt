use Rattle.cell_env.specs.laws.StateLaws.{state_closure_at}
use Rattle.cell_env.proofs.laws.rounding_at_cells.Goals as goal

pub returns : goal.returns
returns g c = λ cells.
    let met = g.met.V.Lattice g.world.𝓛 g.world.𝓜 g.world.𝓡 ((λ s x. x), (λ x. x), (λ x. x), λ x. x) in
    state_closure_at g.V.Lattice.is_value g.V.Lattice.is_marks g.V.Lattice.leq g.V.Lattice.joined g.V.Lattice.rounded met.order met.join_laws met.closure cells
