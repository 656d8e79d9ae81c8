use Rattle.table_covers.specs.Solutions.{at}
use Rattle.table_covers.specs.laws.Closing.{closed_is_least}
use Rattle.least_tables.specs.Settling.{first_table}
use Rattle.least_tables.proofs.Visits.{visited_from}
use Rattle.least_tables.proofs.work_list.least_table.Goals as goal

pub returns-clause-least : goal.returns-clause-least
returns-clause-least g c =
    let met = g.met.E.State.Lattice g.world.𝓛 g.world.𝓜 g.world.𝓡 ((λ s x. x), (λ x. x), (λ x. x), λ x. x) in
    let law = g.met.E.Equations.lawful c.args.system.now c.requires in
    let e = c.in_ok-settled.ensures in
    let start = c.in_ok-start.ensures in
    closed_is_least g.E.State.Lattice (g.E.Equations.fits c.args.system.now) (g.E.Equations.system_of c.args.system.now) met.order met.join_laws law (at c.in_ok-settled.settled.table.items) e.closed (λ other closed. e.least other closed (start.below other closed))

pub returns-clause-visits : goal.returns-clause-visits
returns-clause-visits g c =
    let start = c.in_ok-start.ensures in
    visited_from g.E.State.Lattice (g.E.Equations.fits c.args.system.now) (g.E.Equations.system_of c.args.system.now)
    c.in_ok-settled.settled.visits (at c.in_ok-start.start.items)
    (first_table g.E.State.Lattice (g.E.Equations.fits c.args.system.now) (g.E.Equations.system_of c.args.system.now))
    (at c.in_ok-settled.settled.table.items) start.first c.in_ok-settled.ensures.visits
