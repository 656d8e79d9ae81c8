-- Layouts, graphs and programs may be sent to other threads, and be shared by them.
use denote.Struct.Declared.{shape}
use denote.Param.Send.{IsSend, IsSync, struct_send, struct_sync, sendable}
use denote.Param.SendFields.{as_row_send, as_row_sync}
use Rattle.std.proofs.Crossing.{Vec-send, Vec-sync}
use Rattle.program_systems.specs.tm_laid.contracts.paths.CallPath as CallPath
use Rattle.program_systems.specs.tm_laid.contracts.objects.LaidObject as LaidObject
use Rattle.program_systems.specs.tm_laid.contracts.objects.Initial as Initial
use Rattle.program_systems.specs.tm_laid.contracts.cells.LaidCell as LaidCell
use Rattle.program_systems.specs.tm_laid.contracts.cells.AbstractCell as AbstractCell
use Rattle.program_systems.specs.tm_laid.contracts.layouts.Laid as Laid
use Rattle.program_systems.specs.flow_graph.contracts.operations.Operation as Operation
use Rattle.program_systems.specs.flow_graph.contracts.graphs.Edge as Edge
use Rattle.program_systems.specs.flow_graph.contracts.graphs.Graph as Graph
use Rattle.program_systems.specs.flow_graph.contracts.graphs.Graphs as Graphs
use Rattle.program_systems.specs.strided_dom.contracts.rounding.Marks as Marks
use Rattle.program_systems.specs.mutex_configs.contracts.nodes.ConfiguredNode as ConfiguredNode
use Rattle.program_systems.specs.mutex_configs.contracts.nodes.EdgeCopy as EdgeCopy
use Rattle.program_systems.specs.mutex_configs.contracts.nodes.ConfiguredGraph as ConfiguredGraph
use Rattle.program_systems.specs.mutex_configs.contracts.programs.Program as Program
use Rattle.shared_programs.proofs.IndexedSets.{set_send, set_sync}
use Rattle.shared_programs.proofs.TypedTrees.{typed_file_field_send, typed_file_field_sync}

-- ---- layouts
pub call_path_send : IsSend CallPath.the_row
call_path_send = as_row_send CallPath.the_field (search (sendable) depth 20)

pub call_path_sync : IsSync CallPath.the_row
call_path_sync = as_row_sync CallPath.the_field (search (sendable) depth 20)

pub laid_object_send : IsSend LaidObject.the_row
laid_object_send = as_row_send LaidObject.the_field (search (sendable) depth 20)

pub laid_object_sync : IsSync LaidObject.the_row
laid_object_sync = as_row_sync LaidObject.the_field (search (sendable) depth 20)

pub initial_send : IsSend Initial.the_row
initial_send = as_row_send Initial.the_field (search (sendable) depth 20)

pub initial_sync : IsSync Initial.the_row
initial_sync = as_row_sync Initial.the_field (search (sendable) depth 20)

pub laid_cell_send : IsSend LaidCell.the_row
laid_cell_send = as_row_send LaidCell.the_field (search (sendable) depth 20)

pub laid_cell_sync : IsSync LaidCell.the_row
laid_cell_sync = as_row_sync LaidCell.the_field (search (sendable) depth 20)

pub abstract_cell_send : IsSend AbstractCell.the_row
abstract_cell_send = as_row_send AbstractCell.the_field (search (sendable) depth 20)

pub abstract_cell_sync : IsSync AbstractCell.the_row
abstract_cell_sync = as_row_sync AbstractCell.the_field (search (sendable) depth 20)

pub laid_field_send : IsSend (Laid.the_field).row
laid_field_send = search (
  typed_file_field_send,
  call_path_send,
  laid_object_send,
  initial_send,
  laid_cell_send,
  abstract_cell_send,
  Vec-send,
  sendable,
) depth 20

pub laid_send : IsSend Laid.the_row
laid_send = as_row_send Laid.the_field laid_field_send

pub laid_field_sync : IsSync (Laid.the_field).row
laid_field_sync = search (
  typed_file_field_sync,
  call_path_sync,
  laid_object_sync,
  initial_sync,
  laid_cell_sync,
  abstract_cell_sync,
  Vec-sync,
  sendable,
) depth 20

pub laid_sync : IsSync Laid.the_row
laid_sync = as_row_sync Laid.the_field laid_field_sync

-- ---- graphs
pub operation_field_send : IsSend (Operation.the_field).row
operation_field_send = search (sendable) depth 60 fits 20000

pub operation_send : IsSend Operation.the_row
operation_send = as_row_send Operation.the_field operation_field_send

pub operation_field_sync : IsSync (Operation.the_field).row
operation_field_sync = search (sendable) depth 60 fits 20000

pub operation_sync : IsSync Operation.the_row
operation_sync = as_row_sync Operation.the_field operation_field_sync

pub edge_send : IsSend Edge.the_row
edge_send = as_row_send Edge.the_field (search (operation_field_send, sendable) depth 20)

pub edge_sync : IsSync Edge.the_row
edge_sync = as_row_sync Edge.the_field (search (operation_field_sync, sendable) depth 20)

pub graph_send : IsSend Graph.the_row
graph_send = as_row_send Graph.the_field (search (edge_send, Vec-send, sendable) depth 20)

pub graph_sync : IsSync Graph.the_row
graph_sync = as_row_sync Graph.the_field (search (edge_sync, Vec-sync, sendable) depth 20)

pub graphs_field_send : IsSend (Graphs.the_field).row
graphs_field_send = search (graph_send, Vec-send, sendable) depth 20

pub graphs_send : IsSend Graphs.the_row
graphs_send = as_row_send Graphs.the_field graphs_field_send

pub graphs_field_sync : IsSync (Graphs.the_field).row
graphs_field_sync = search (graph_sync, Vec-sync, sendable) depth 20

pub graphs_sync : IsSync Graphs.the_row
graphs_sync = as_row_sync Graphs.the_field graphs_field_sync

-- ---- thresholds
pub marks_field_send : IsSend (Marks.the_field).row
marks_field_send = search (Vec-send, sendable) depth 20

pub marks_send : IsSend Marks.the_row
marks_send = as_row_send Marks.the_field marks_field_send

pub marks_field_sync : IsSync (Marks.the_field).row
marks_field_sync = search (Vec-sync, sendable) depth 20

pub marks_sync : IsSync Marks.the_row
marks_sync = as_row_sync Marks.the_field marks_field_sync

-- ---- configured graphs
pub configured_node_send : IsSend ConfiguredNode.the_row
configured_node_send = as_row_send ConfiguredNode.the_field (search (sendable) depth 20)

pub configured_node_sync : IsSync ConfiguredNode.the_row
configured_node_sync = as_row_sync ConfiguredNode.the_field (search (sendable) depth 20)

pub edge_copy_send : IsSend EdgeCopy.the_row
edge_copy_send = as_row_send EdgeCopy.the_field (search (sendable) depth 20)

pub edge_copy_sync : IsSync EdgeCopy.the_row
edge_copy_sync = as_row_sync EdgeCopy.the_field (search (sendable) depth 20)

pub configured_graph_send : IsSend ConfiguredGraph.the_row
configured_graph_send =
    as_row_send ConfiguredGraph.the_field
    (struct_send (shape ConfiguredGraph.the_type)
    (set_send _ _ _ _ _ configured_node_send, (search (edge_copy_send, Vec-send, sendable) depth 20, tt)))

pub configured_graph_sync : IsSync ConfiguredGraph.the_row
configured_graph_sync =
    as_row_sync ConfiguredGraph.the_field
    (struct_sync (shape ConfiguredGraph.the_type)
    (set_sync _ _ _ _ _ configured_node_sync, (search (edge_copy_sync, Vec-sync, sendable) depth 20, tt)))

-- ---- programs
pub program_field_send : IsSend (Program.the_field).row
program_field_send = search (
  laid_field_send,
  graphs_field_send,
  configured_graph_send,
  marks_field_send,
  Vec-send,
  sendable,
) depth 20

pub program_send : IsSend Program.the_row
program_send = as_row_send Program.the_field program_field_send

pub program_field_sync : IsSync (Program.the_field).row
program_field_sync = search (
  laid_field_sync,
  graphs_field_sync,
  configured_graph_sync,
  marks_field_sync,
  Vec-sync,
  sendable,
) depth 20

pub program_sync : IsSync Program.the_row
program_sync = as_row_sync Program.the_field program_field_sync
