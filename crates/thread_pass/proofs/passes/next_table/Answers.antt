use Rattle.table_covers.specs.Solutions.{at}
use Rattle.table_covers.specs.laws.Closing.{closed_is_least}
use Rattle.program_equality.specs.state_fits.laws.PlacesFit.{states_order, states_join}
use Rattle.program_equality.specs.program_equations.Systems.{states, FitsBody}
use Rattle.program_systems.specs.body_systems.Systems.{body_of, system_of}
use Rattle.program_systems.specs.body_systems.laws.Lawful.{system_is_lawful}
use Rattle.thread_pass.proofs.passes.next_table.Goals as goal

pub returns-clause-least : goal.returns-clause-least
returns-clause-least c =
    let w = c.args.body.now in
    let table = c.in_ok-table.field-0.table in
    closed_is_least states (FitsBody (body_of w)) (system_of w) states_order states_join
    (system_is_lawful w c.store-store.ensures.system) (at table.items) c.in_ok-table.ensures.closed
    (λ other closed. c.in_ok-table.ensures.least other closed (c.requires.below other closed))
