use Rattle.table_covers.specs.laws.WholeLeast.{warm_start}
use Rattle.least_tables.proofs.analysed_programs.warm_starts.Goals as goal

pub returns : goal.returns
returns g c =
    let states = g.met.A.State.Lattice g.world.𝓛 g.world.𝓜 g.world.𝓡 ((λ s x. x), (λ x. x), (λ x. x), λ x. x) in
    let store = g.met.A.Store.Lattice g.world.𝓛 g.world.𝓜 g.world.𝓡 ((λ s x. x), (λ x. x), (λ x. x), λ x. x) in
    let passer = g.met.A.Passer g.world.𝓛 g.world.𝓜 g.world.𝓡 ((λ s x. x), (λ x. x), (λ x. x), λ x. x) in
    let whole = g.met.A.Analysed g.world.𝓛 g.world.𝓜 g.world.𝓡 ((λ s x. x), (λ x. x), (λ x. x), λ x. x) in
    let a = g.A.Analysed in
    λ program task earlier later table is lt fits fits' le least.
    warm_start g.A.State.Lattice (a.nodes program) (a.links_of program) (a.after program) (a.entry program) (a.outward program) (a.heads program) (a.suits program) a.height (a.limit program)
    (a.added program) g.A.Store.Lattice g.A.Passer program (a.precedes program) (a.is_before program) (a.before program) (a.table_of program) states.order states.join_laws store.order store.join_laws store.closure
    (passer.fitting program is) (passer.bottom_laws program is) (whole.whole program is) task earlier later table lt fits fits' le least
