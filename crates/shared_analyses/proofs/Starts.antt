-- What passes keep of slots may be sent to other threads, and be shared by them.
use denote.RattleType.{RattleType}
use denote.Param.Send.{IsSend, IsSync, view_send, view_sync, struct_send, struct_sync, sendable}
use denote.Param.SendFields.{as_row_send, as_row_sync}
use denote.Struct.Declared.{shape}
use Rattle.std.specs.contracts.option.Option as Option
use Rattle.std.proofs.Crossing.{Vec-send, Vec-sync, Arc-send, Arc-sync}
use Rattle.thread_pass.specs.program_systems.strided_dom.contracts.rounding.Marks as Marks
use Rattle.thread_pass.specs.program_systems.pointer_dom.contracts.abs_value.AbsValue as AbsValue
use Rattle.thread_pass.specs.program_systems.pointer_dom.contracts.abs_value.AbsValueLattice.TheImpl as OfValues
use Rattle.thread_pass.specs.program_systems.tm_lattice.contracts.tables.Keyed as Keyed
use Rattle.thread_pass.specs.program_systems.cell_env.contracts.cells.CellState as CellState
use Rattle.thread_pass.specs.program_systems.cell_env.contracts.temps.TempState as TempState
use Rattle.thread_pass.specs.program_systems.cell_env.contracts.temps.TempStateLattice.TheImpl as OfTemps
use Rattle.thread_pass.specs.slot_numbers.front_constraints.contracts.standings.Standing as Standing
use Rattle.thread_pass.specs.body_slots.contracts.starts.SlotValues as SlotValues
use Rattle.thread_pass.specs.body_slots.contracts.starts.SlotValues.TheInside as ValuesInside
use Rattle.thread_pass.specs.contracts.starts.ProgramSlots as ProgramSlots
use Rattle.thread_pass.specs.contracts.starts.ProgramSlots.TheInside as ProgramInside
use Rattle.thread_pass.specs.contracts.starts.TaskStart as TaskStart
use Rattle.thread_pass.specs.contracts.starts.TaskStart.TheInside as StartInside
use Rattle.shared_programs.proofs.States.{value_send, value_sync}
use Rattle.shared_programs.proofs.Tables.{keyed_send, keyed_sync, temp_send, temp_sync, cell_send, cell_sync}
use Rattle.shared_analyses.proofs.Slots.{slots_send, slots_sync}

abbrev V : RattleType
V = AbsValue.the_row

abbrev M : RattleType
M = Marks.the_row

-- the temporaries of a node
abbrev Front : RattleType
Front =
    Keyed.the_row (TempState.the_row V M) M (OfTemps.ghosts V M OfValues.ghosts OfTemps.no_dict OfTemps.no_dict
    OfTemps.no_dict)

abbrev Cell : RattleType
Cell = CellState.the_row V M

-- ---- what stands at variables
front_send : IsSend Front
front_send =
    keyed_send (TempState.the_row V M) M (OfTemps.ghosts V M OfValues.ghosts OfTemps.no_dict OfTemps.no_dict
    OfTemps.no_dict) (temp_send V M OfValues.ghosts value_send)

maybe_front_send : IsSend (Option.the_field Front).row
maybe_front_send = search (front_send, sendable) depth 20

maybe_cell_send : IsSend (Option.the_field Cell).row
maybe_cell_send =
    let c = cell_send V M OfValues.ghosts value_send in search (c, sendable) depth 20

standing_send : IsSend (Standing.the_row Front Cell)
standing_send =
    as_row_send (Standing.the_field Front Cell)
    (struct_send (shape (Standing.the_type Front Cell)) (maybe_front_send, (maybe_cell_send, tt)))

maybe_standing_send : IsSend (Option.the_row (Standing.the_row Front Cell))
maybe_standing_send =
    as_row_send (Option.the_field (Standing.the_row Front Cell)) (search (standing_send, sendable) depth 20)

values_send : IsSend SlotValues.the_row
values_send =
    view_send ValuesInside.the_row _ _ _ _
    (as_row_send ValuesInside.the_field (search (maybe_standing_send, Vec-send, sendable) depth 20))

-- ---- the slots of a program
pub program_slots_send : IsSend ProgramSlots.the_row
program_slots_send =
    view_send ProgramInside.the_row _ _ _ _
    (as_row_send ProgramInside.the_field (search (slots_send, Vec-send, sendable) depth 20))

-- ---- what stands at variables
front_sync : IsSync Front
front_sync =
    keyed_sync (TempState.the_row V M) M (OfTemps.ghosts V M OfValues.ghosts OfTemps.no_dict OfTemps.no_dict
    OfTemps.no_dict) (temp_sync V M OfValues.ghosts value_sync)

maybe_front_sync : IsSync (Option.the_field Front).row
maybe_front_sync = search (front_sync, sendable) depth 20

maybe_cell_sync : IsSync (Option.the_field Cell).row
maybe_cell_sync =
    let c = cell_sync V M OfValues.ghosts value_sync in search (c, sendable) depth 20

standing_sync : IsSync (Standing.the_row Front Cell)
standing_sync =
    as_row_sync (Standing.the_field Front Cell)
    (struct_sync (shape (Standing.the_type Front Cell)) (maybe_front_sync, (maybe_cell_sync, tt)))

maybe_standing_sync : IsSync (Option.the_row (Standing.the_row Front Cell))
maybe_standing_sync =
    as_row_sync (Option.the_field (Standing.the_row Front Cell)) (search (standing_sync, sendable) depth 20)

values_sync : IsSync SlotValues.the_row
values_sync =
    view_sync ValuesInside.the_row _ _ _ _
    (as_row_sync ValuesInside.the_field (search (maybe_standing_sync, Vec-sync, sendable) depth 20))

-- ---- the slots of a program
pub program_slots_sync : IsSync ProgramSlots.the_row
program_slots_sync =
    view_sync ProgramInside.the_row _ _ _ _
    (as_row_sync ProgramInside.the_field (search (slots_sync, Vec-sync, sendable) depth 20))

task_start_send : IsSend TaskStart.the_row
task_start_send =
    view_send StartInside.the_row _ _ _ _
    (as_row_send StartInside.the_field
    (search (program_slots_send, program_slots_sync, values_send, Arc-send, sendable) depth 20))

pub start_send : IsSend (Option.the_field TaskStart.the_row).row
start_send = search (task_start_send, sendable) depth 20

task_start_sync : IsSync TaskStart.the_row
task_start_sync =
    view_sync StartInside.the_row _ _ _ _
    (as_row_sync StartInside.the_field
    (search (program_slots_send, program_slots_sync, values_sync, Arc-sync, sendable) depth 20))

pub start_sync : IsSync (Option.the_field TaskStart.the_row).row
start_sync = search (task_start_sync, sendable) depth 20
