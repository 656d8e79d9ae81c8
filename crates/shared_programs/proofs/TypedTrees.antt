-- Typed trees may be sent to other threads, and be shared by them.
use denote.RattleType.{RattleType}
use denote.Param.Send.{IsSend, IsSync, sendable}
use denote.Param.SendFields.{as_row_send, as_row_sync}
use Rattle.std.specs.contracts.alloc.Global as Heap
use Rattle.std.specs.contracts.boxed.Box as Box
use Rattle.std.specs.contracts.option.Option as Option
use Rattle.std.specs.contracts.vec.Vec as Vec
use Rattle.std.specs.contracts.impls.GlobalAllocator.TheImpl.{ghosts}
use Rattle.std.proofs.Crossing.{Box-send, Box-sync, Vec-send, Vec-sync}
use Rattle.program_systems.specs.tm_typed.contracts.expressions.Rvalue as Rvalue
use Rattle.program_systems.specs.tm_typed.contracts.statements.GivenCell as GivenCell
use Rattle.program_systems.specs.tm_typed.contracts.statements.LocalInitialiser as LocalInitialiser
use Rattle.program_systems.specs.tm_typed.contracts.statements.LocalObject as LocalObject
use Rattle.program_systems.specs.tm_typed.contracts.statements.TypedStatement as TypedStatement
use Rattle.program_systems.specs.tm_typed.contracts.types.TypeEntry as TypeEntry
use Rattle.program_systems.specs.tm_typed.contracts.scopes.Member as Member
use Rattle.program_systems.specs.tm_typed.contracts.scopes.StructEntry as StructEntry
use Rattle.program_systems.specs.tm_typed.contracts.files.StaticCell as StaticCell
use Rattle.program_systems.specs.tm_typed.contracts.files.TypedStatic as TypedStatic
use Rattle.program_systems.specs.tm_typed.contracts.files.LocalEntry as LocalEntry
use Rattle.program_systems.specs.tm_typed.contracts.files.TypedBody as TypedBody
use Rattle.program_systems.specs.tm_typed.contracts.files.TypedFunction as TypedFunction
use Rattle.program_systems.specs.tm_typed.contracts.files.TypedTask as TypedTask
use Rattle.program_systems.specs.tm_typed.contracts.files.MutexEntry as MutexEntry
use Rattle.program_systems.specs.tm_typed.contracts.files.TypedFile as TypedFile
use Rattle.program_systems.proofs.low.tm_typed.expressions.Lvalue.TheLaws.TheKnot as Values
use Rattle.program_systems.proofs.low.tm_typed.statements.TypedStatement.TheLaws.TheKnot as Statements

-- ---- what stands in a box or a list, and a box that may be missing
module _ (R : RattleType) where
  boxed_send : IsSend R → IsSend (Box.the_row R Heap.the_row ghosts)
  boxed_send = Box-send R

  boxed_sync : IsSync R → IsSync (Box.the_row R Heap.the_row ghosts)
  boxed_sync = Box-sync R

  listed_send : IsSend R → IsSend (Vec.the_row R Heap.the_row ghosts)
  listed_send = Vec-send R

  listed_sync : IsSync R → IsSync (Vec.the_row R Heap.the_row ghosts)
  listed_sync = Vec-sync R

  perhaps_send : IsSend R → IsSend (Option.the_row (Box.the_row R Heap.the_row ghosts))
  perhaps_send s =
      let b = Box-send R s in
      as_row_send (Option.the_field (Box.the_row R Heap.the_row ghosts)) (search (b, sendable) depth 20)

  perhaps_sync : IsSync R → IsSync (Option.the_row (Box.the_row R Heap.the_row ghosts))
  perhaps_sync s =
      let b = Box-sync R s in
      as_row_sync (Option.the_field (Box.the_row R Heap.the_row ghosts)) (search (b, sendable) depth 20)

-- ---- expressions

pub rvalue_send : IsSend Rvalue.the_row
rvalue_send =
    as_row_send Rvalue.the_field
    (Values.send-Rvalue (search sendable depth 20) (search sendable depth 20) boxed_send (search sendable)
    (search sendable depth 20) (search sendable) (search sendable depth 20) (search sendable)
    (search sendable depth 20) (search sendable depth 20) (search sendable depth 20) listed_send)

pub rvalue_sync : IsSync Rvalue.the_row
rvalue_sync =
    as_row_sync Rvalue.the_field
    (Values.sync-Rvalue (search sendable depth 20) (search sendable depth 20) boxed_sync (search sendable)
    (search sendable depth 20) (search sendable) (search sendable depth 20) (search sendable)
    (search sendable depth 20) (search sendable depth 20) (search sendable depth 20) listed_sync)

-- ---- statements
pub given_cell_send : IsSend GivenCell.the_row
given_cell_send = as_row_send GivenCell.the_field (search (rvalue_send, Box-send, sendable) depth 20)

pub given_cell_sync : IsSync GivenCell.the_row
given_cell_sync = as_row_sync GivenCell.the_field (search (rvalue_sync, Box-sync, sendable) depth 20)

pub local_initialiser_send : IsSend LocalInitialiser.the_row
local_initialiser_send = as_row_send LocalInitialiser.the_field (search (given_cell_send, Vec-send, sendable) depth 20)

pub local_initialiser_sync : IsSync LocalInitialiser.the_row
local_initialiser_sync = as_row_sync LocalInitialiser.the_field (search (given_cell_sync, Vec-sync, sendable) depth 20)

pub local_object_send : IsSend LocalObject.the_row
local_object_send = as_row_send LocalObject.the_field (search (local_initialiser_send, sendable) depth 20)

pub local_object_sync : IsSync LocalObject.the_row
local_object_sync = as_row_sync LocalObject.the_field (search (local_initialiser_sync, sendable) depth 20)

pub typed_statement_send : IsSend TypedStatement.the_row
typed_statement_send =
    as_row_send TypedStatement.the_field
    (Statements.send-TypedStatement (search (rvalue_send, Box-send, sendable) depth 20)
    (Vec-send LocalObject.the_row local_object_send) listed_send (Box-send Rvalue.the_row rvalue_send) boxed_send
    perhaps_send (search sendable depth 20) (search sendable) (search sendable depth 20) (search sendable))

pub typed_statement_sync : IsSync TypedStatement.the_row
typed_statement_sync =
    as_row_sync TypedStatement.the_field
    (Statements.sync-TypedStatement (search (rvalue_sync, Box-sync, sendable) depth 20)
    (Vec-sync LocalObject.the_row local_object_sync) listed_sync (Box-sync Rvalue.the_row rvalue_sync) boxed_sync
    perhaps_sync (search sendable depth 20) (search sendable) (search sendable depth 20) (search sendable))

-- ---- files
pub type_entry_send : IsSend TypeEntry.the_row
type_entry_send = as_row_send TypeEntry.the_field (search (sendable) depth 20)

pub type_entry_sync : IsSync TypeEntry.the_row
type_entry_sync = as_row_sync TypeEntry.the_field (search (sendable) depth 20)

pub member_send : IsSend Member.the_row
member_send = as_row_send Member.the_field (search (sendable) depth 20)

pub member_sync : IsSync Member.the_row
member_sync = as_row_sync Member.the_field (search (sendable) depth 20)

pub struct_entry_send : IsSend StructEntry.the_row
struct_entry_send = as_row_send StructEntry.the_field (search (member_send, Vec-send, sendable) depth 20)

pub struct_entry_sync : IsSync StructEntry.the_row
struct_entry_sync = as_row_sync StructEntry.the_field (search (member_sync, Vec-sync, sendable) depth 20)

pub static_cell_send : IsSend StaticCell.the_row
static_cell_send = as_row_send StaticCell.the_field (search (sendable) depth 20)

pub static_cell_sync : IsSync StaticCell.the_row
static_cell_sync = as_row_sync StaticCell.the_field (search (sendable) depth 20)

pub typed_static_send : IsSend TypedStatic.the_row
typed_static_send = as_row_send TypedStatic.the_field (search (static_cell_send, Vec-send, sendable) depth 20)

pub typed_static_sync : IsSync TypedStatic.the_row
typed_static_sync = as_row_sync TypedStatic.the_field (search (static_cell_sync, Vec-sync, sendable) depth 20)

pub local_entry_send : IsSend LocalEntry.the_row
local_entry_send = as_row_send LocalEntry.the_field (search (sendable) depth 20)

pub local_entry_sync : IsSync LocalEntry.the_row
local_entry_sync = as_row_sync LocalEntry.the_field (search (sendable) depth 20)

pub typed_body_send : IsSend TypedBody.the_row
typed_body_send = as_row_send TypedBody.the_field
    (search (local_entry_send, typed_statement_send, Vec-send, sendable) depth 20)

pub typed_body_sync : IsSync TypedBody.the_row
typed_body_sync = as_row_sync TypedBody.the_field
    (search (local_entry_sync, typed_statement_sync, Vec-sync, sendable) depth 20)

pub typed_function_send : IsSend TypedFunction.the_row
typed_function_send = as_row_send TypedFunction.the_field (search (typed_body_send, Vec-send, sendable) depth 20)

pub typed_function_sync : IsSync TypedFunction.the_row
typed_function_sync = as_row_sync TypedFunction.the_field (search (typed_body_sync, Vec-sync, sendable) depth 20)

pub typed_task_send : IsSend TypedTask.the_row
typed_task_send = as_row_send TypedTask.the_field (search (sendable) depth 20)

pub typed_task_sync : IsSync TypedTask.the_row
typed_task_sync = as_row_sync TypedTask.the_field (search (sendable) depth 20)

pub mutex_entry_send : IsSend MutexEntry.the_row
mutex_entry_send = as_row_send MutexEntry.the_field (search (sendable) depth 20)

pub mutex_entry_sync : IsSync MutexEntry.the_row
mutex_entry_sync = as_row_sync MutexEntry.the_field (search (sendable) depth 20)

pub typed_file_field_send : IsSend (TypedFile.the_field).row
typed_file_field_send = search (
  type_entry_send,
  struct_entry_send,
  typed_static_send,
  typed_function_send,
  typed_task_send,
  mutex_entry_send,
  Vec-send,
  sendable,
) depth 20

pub typed_file_send : IsSend TypedFile.the_row
typed_file_send = as_row_send TypedFile.the_field typed_file_field_send

pub typed_file_field_sync : IsSync (TypedFile.the_field).row
typed_file_field_sync = search (
  type_entry_sync,
  struct_entry_sync,
  typed_static_sync,
  typed_function_sync,
  typed_task_sync,
  mutex_entry_sync,
  Vec-sync,
  sendable,
) depth 20

pub typed_file_sync : IsSync TypedFile.the_row
typed_file_sync = as_row_sync TypedFile.the_field typed_file_field_sync
