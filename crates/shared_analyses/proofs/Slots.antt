-- The slots of bodies may be sent to other threads, and be shared by them.
use denote.Param.Send.{IsSend, IsSync, view_send, view_sync, sendable}
use denote.Param.SendFields.{as_row_send, as_row_sync}
use Rattle.std.specs.contracts.option.Option as Option
use Rattle.std.proofs.Crossing.{Vec-send, Vec-sync}
use Rattle.thread_pass.specs.table_covers.contracts.links.Link as Link
use Rattle.thread_pass.specs.cell_placings.contracts.cell_sets.CellSet as CellSet
use Rattle.thread_pass.specs.cell_placings.contracts.cell_sets.CellSet.TheInside as CellsInside
use Rattle.thread_pass.specs.cell_placings.contracts.cell_graphs.CellGraph as CellGraph
use Rattle.thread_pass.specs.cell_placings.contracts.histories.Change as Change
use Rattle.thread_pass.specs.cell_placings.contracts.histories.History as History
use Rattle.thread_pass.specs.cell_placings.contracts.histories.History.TheInside as HistoryInside
use Rattle.thread_pass.specs.cell_placings.contracts.owners.Owners as Owners
use Rattle.thread_pass.specs.cell_placings.contracts.placings.CellPlacing as CellPlacing
use Rattle.thread_pass.specs.cell_placings.contracts.placings.CellPlacing.TheInside as PlacingInside
use Rattle.thread_pass.specs.slot_numbers.contracts.names.OwnedCell as OwnedCell
use Rattle.thread_pass.specs.slot_numbers.contracts.names.FlowingCell as FlowingCell
use Rattle.thread_pass.specs.slot_numbers.contracts.number_lists.NumberList as NumberList
use Rattle.thread_pass.specs.slot_numbers.contracts.number_lists.NumberList.TheInside as ListInside
use Rattle.thread_pass.specs.slot_numbers.contracts.variable_numbers.VariableNumbers as VariableNumbers
use Rattle.thread_pass.specs.slot_numbers.contracts.variable_numbers.VariableNumbers.TheInside as VariablesInside
use Rattle.thread_pass.specs.slot_numbers.contracts.numberings.SlotNumbers as SlotNumbers
use Rattle.thread_pass.specs.slot_numbers.contracts.numberings.SlotNumbers.TheInside as NumbersInside
use Rattle.thread_pass.specs.row_checks.contracts.traces.Traces as Traces
use Rattle.thread_pass.specs.body_slots.contracts.slots.BodySlots as BodySlots
use Rattle.thread_pass.specs.body_slots.contracts.slots.BodySlots.TheInside as SlotsInside

-- ---- cells and where they are kept
link_send : IsSend Link.the_row
link_send = as_row_send Link.the_field (search sendable depth 20)

cells_send : IsSend CellSet.the_row
cells_send =
    view_send CellsInside.the_row _ _ _ _
    (as_row_send CellsInside.the_field (search (Vec-send, sendable) depth 20))

graph_field_send : IsSend (CellGraph.the_field).row
graph_field_send = search (link_send, cells_send, Vec-send, sendable) depth 20

change_send : IsSend Change.the_row
change_send = as_row_send Change.the_field (search sendable depth 20)

history_send : IsSend History.the_row
history_send =
    view_send HistoryInside.the_row _ _ _ _
    (as_row_send HistoryInside.the_field (search (change_send, Vec-send, sendable) depth 20))

owners_field_send : IsSend (Owners.the_field).row
owners_field_send = search (cells_send, Vec-send, sendable) depth 20

placing_send : IsSend CellPlacing.the_row
placing_send =
    view_send PlacingInside.the_row _ _ _ _
    (as_row_send PlacingInside.the_field
    (search (owners_field_send, history_send, Vec-send, sendable) depth 20))

-- ---- numbers of variables and constraints
owned_cell_send : IsSend OwnedCell.the_row
owned_cell_send = as_row_send OwnedCell.the_field (search sendable depth 20)

flowing_cell_send : IsSend FlowingCell.the_row
flowing_cell_send = as_row_send FlowingCell.the_field (search sendable depth 20)

list_send : IsSend NumberList.the_row
list_send =
    view_send ListInside.the_row _ _ _ _
    (as_row_send ListInside.the_field (search (Vec-send, sendable) depth 20))

variables_send : IsSend VariableNumbers.the_row
variables_send =
    view_send VariablesInside.the_row _ _ _ _
    (as_row_send VariablesInside.the_field (search (cells_send, owned_cell_send, Vec-send, sendable) depth 20))

numbers_send : IsSend SlotNumbers.the_row
numbers_send =
    view_send NumbersInside.the_row _ _ _ _
    (as_row_send NumbersInside.the_field
    (search (variables_send, flowing_cell_send, list_send, Vec-send, sendable) depth 20))

-- ---- slots
traces_field_send : IsSend (Traces.the_field).row
traces_field_send = search (cells_send, Vec-send, sendable) depth 20

body_slots_send : IsSend BodySlots.the_row
body_slots_send =
    view_send SlotsInside.the_row _ _ _ _
    (as_row_send SlotsInside.the_field
    (search (graph_field_send, placing_send, cells_send, numbers_send, traces_field_send, sendable) depth 20))

-- the slots of a body that has some or none
pub slots_send : IsSend (Option.the_row BodySlots.the_row)
slots_send = as_row_send (Option.the_field BodySlots.the_row) (search (body_slots_send, sendable) depth 20)

link_sync : IsSync Link.the_row
link_sync = as_row_sync Link.the_field (search sendable depth 20)

cells_sync : IsSync CellSet.the_row
cells_sync =
    view_sync CellsInside.the_row _ _ _ _
    (as_row_sync CellsInside.the_field (search (Vec-sync, sendable) depth 20))

graph_field_sync : IsSync (CellGraph.the_field).row
graph_field_sync = search (link_sync, cells_sync, Vec-sync, sendable) depth 20

change_sync : IsSync Change.the_row
change_sync = as_row_sync Change.the_field (search sendable depth 20)

history_sync : IsSync History.the_row
history_sync =
    view_sync HistoryInside.the_row _ _ _ _
    (as_row_sync HistoryInside.the_field (search (change_sync, Vec-sync, sendable) depth 20))

owners_field_sync : IsSync (Owners.the_field).row
owners_field_sync = search (cells_sync, Vec-sync, sendable) depth 20

placing_sync : IsSync CellPlacing.the_row
placing_sync =
    view_sync PlacingInside.the_row _ _ _ _
    (as_row_sync PlacingInside.the_field
    (search (owners_field_sync, history_sync, Vec-sync, sendable) depth 20))

owned_cell_sync : IsSync OwnedCell.the_row
owned_cell_sync = as_row_sync OwnedCell.the_field (search sendable depth 20)

flowing_cell_sync : IsSync FlowingCell.the_row
flowing_cell_sync = as_row_sync FlowingCell.the_field (search sendable depth 20)

list_sync : IsSync NumberList.the_row
list_sync =
    view_sync ListInside.the_row _ _ _ _
    (as_row_sync ListInside.the_field (search (Vec-sync, sendable) depth 20))

variables_sync : IsSync VariableNumbers.the_row
variables_sync =
    view_sync VariablesInside.the_row _ _ _ _
    (as_row_sync VariablesInside.the_field (search (cells_sync, owned_cell_sync, Vec-sync, sendable) depth 20))

numbers_sync : IsSync SlotNumbers.the_row
numbers_sync =
    view_sync NumbersInside.the_row _ _ _ _
    (as_row_sync NumbersInside.the_field
    (search (variables_sync, flowing_cell_sync, list_sync, Vec-sync, sendable) depth 20))

traces_field_sync : IsSync (Traces.the_field).row
traces_field_sync = search (cells_sync, Vec-sync, sendable) depth 20

body_slots_sync : IsSync BodySlots.the_row
body_slots_sync =
    view_sync SlotsInside.the_row _ _ _ _
    (as_row_sync SlotsInside.the_field
    (search (graph_field_sync, placing_sync, cells_sync, numbers_sync, traces_field_sync, sendable) depth 20))

pub slots_sync : IsSync (Option.the_row BodySlots.the_row)
slots_sync = as_row_sync (Option.the_field BodySlots.the_row) (search (body_slots_sync, sendable) depth 20)
