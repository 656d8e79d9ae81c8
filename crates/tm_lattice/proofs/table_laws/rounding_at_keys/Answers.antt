use Rattle.tm_lattice.specs.laws.SelectedLaws.{selected_closure}
use Rattle.tm_lattice.proofs.table_laws.rounding_at_keys.Goals as goal

pub returns : goal.returns
returns g c = λ keys.
    let met = g.met.V.Lattice g.world.𝓛 g.world.𝓜 g.world.𝓡 ((λ s x. x), (λ x. x), (λ x. x), λ x. x) in
    selected_closure g.V.Lattice.is_value g.V.Lattice.is_marks g.V.Lattice.leq g.V.Lattice.rounded g.V.Lattice.nothing keys met.order met.closure met.nothing_laws
