-- The equations of a body are a system of equations.
use Rattle.pointer_dom.specs.Values.{joined_values}
use Rattle.cell_env.specs.States.{joined_state}
use Rattle.transfer_mem.specs.edge_actions.transfer_rows.StateForms.{IsStateForm, IsStateUnder}
use Rattle.table_covers.specs.Systems.{IsLawfulSystem}
use Rattle.program_equations.specs.Systems.{FitsBody}
use Rattle.task_equations.specs.laws.Lawful.{equations_are_lawful}
use Rattle.body_systems.specs.Systems.{SystemOf, body_of, system_of, IsSystemOf}

pub system_is_lawful : (v : SystemOf) → IsSystemOf v → IsLawfulSystem IsStateForm IsStateUnder
    (joined_state joined_values) (FitsBody (body_of v)) (system_of v)
system_is_lawful v is =
    equations_are_lawful (body_of v) is.sorts is.body is.tasks v.store is.store v.entry is.entry
