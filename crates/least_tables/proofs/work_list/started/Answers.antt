use Rattle.std.proofs.Common.{◌∙◌}
use Rattle.least_tables.proofs.Starts.{start_none, start_some}
use Rattle.least_tables.proofs.work_list.started.Goals as goal

pub returns-in_default : goal.returns-in_default
returns-in_default g c =
    let met = g.met.E.State.Lattice g.world.𝓛 g.world.𝓜 g.world.𝓡 ((λ s x. x), (λ x. x), (λ x. x), λ x. x) in
    let law = g.met.E.Equations.lawful c.args.system.now c.requires in
    let e = c.in_ok-table.ensures in
    start_none g.E.State.Lattice (g.E.Equations.fits c.args.system.now) (g.E.Equations.system_of c.args.system.now) met.order met.join_laws law c.in_ok-table.table.items c.in_ok-state.field-0 (e.0 ∙ c.nodes.ensures) e.1 c.in_ok-state.ensures c.in_default.is

pub returns : goal.returns
returns g c =
    let met = g.met.E.State.Lattice g.world.𝓛 g.world.𝓜 g.world.𝓡 ((λ s x. x), (λ x. x), (λ x. x), λ x. x) in
    let law = g.met.E.Equations.lawful c.args.system.now c.requires in
    let e = c.in_ok-table.ensures in
    start_some g.E.State.Lattice (g.E.Equations.fits c.args.system.now) (g.E.Equations.system_of c.args.system.now) met.order met.join_laws law c.in_ok-table.table.items c.in_ok-state.field-0 c.in-Some.state c.in_ok-rounded.field-0 (e.0 ∙ c.nodes.ensures) e.1 c.in_ok-state.ensures c.in-Some.is c.in_ok-rounded.ensures
