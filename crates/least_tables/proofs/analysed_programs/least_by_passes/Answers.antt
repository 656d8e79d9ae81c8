use Rattle.table_covers.specs.laws.WholeLeast.{history_is_least}
use Rattle.least_tables.proofs.analysed_programs.least_by_passes.Goals as goal

pub returns : goal.returns
returns g c =
    let states = g.met.A.State.Lattice g.world.𝓛 g.world.𝓜 g.world.𝓡 ((λ s x. x), (λ x. x), (λ x. x), λ x. x) in
    let store = g.met.A.Store.Lattice g.world.𝓛 g.world.𝓜 g.world.𝓡 ((λ s x. x), (λ x. x), (λ x. x), λ x. x) in
    let passer = g.met.A.Passer g.world.𝓛 g.world.𝓜 g.world.𝓡 ((λ s x. x), (λ x. x), (λ x. x), λ x. x) in
    let whole = g.met.A.Analysed g.world.𝓛 g.world.𝓜 g.world.𝓡 ((λ s x. x), (λ x. x), (λ x. x), λ x. x) in
    let a = g.A.Analysed in
    λ program s earlier is history closed.
    history_is_least g.A.State.Lattice (a.nodes program) (a.links_of program) (a.after program) (a.entry program) (a.outward program) (a.heads program) (a.suits program) a.height (a.limit program)
    (a.added program) g.A.Store.Lattice g.A.Passer program (a.precedes program) (a.is_before program) (a.before program) (a.table_of program) states.order states.join_laws store.order store.join_laws store.closure
    (passer.fitting program is) (passer.bottom_laws program is) (whole.whole program is) s earlier history closed
