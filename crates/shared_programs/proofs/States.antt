-- Values, states and stores may be sent to other threads, and be shared by them.
use denote.RattleType.{RattleType}
use denote.Param.Send.{IsSend, IsSync, struct_send, struct_sync, view_send, view_sync, fixed_send, fixed_sync, sendable}
use denote.Param.SendFields.{as_row_send, as_row_sync}
use denote.Struct.Declared.{shape}
use Rattle.program_systems.specs.strided_dom.declared.sets.Strided.TheView as OfStrided
use Rattle.program_systems.specs.pointer_dom.declared.offsets.Offsets.TheView as OfOffsetSets
use Rattle.program_systems.specs.strided_dom.contracts.rounding.Marks as Marks
use Rattle.program_systems.specs.strided_dom.contracts.sets.Strided as Strided
use Rattle.program_systems.specs.strided_dom.contracts.sets.Strided.TheInside as StridedInside
use Rattle.program_systems.specs.pointer_dom.contracts.offsets.Offsets as Offsets
use Rattle.program_systems.specs.pointer_dom.contracts.offsets.Offsets.TheInside as OffsetsInside
use Rattle.program_systems.specs.pointer_dom.contracts.offsets.OffsetsLattice.TheImpl as OfOffsets
use Rattle.program_systems.specs.pointer_dom.contracts.pointer_set.PointerSet as PointerSet
use Rattle.program_systems.specs.pointer_dom.contracts.pointer_set.PointerSet.TheInside as PointersInside
use Rattle.program_systems.specs.pointer_dom.contracts.abs_value.AbsValue as AbsValue
use Rattle.program_systems.specs.pointer_dom.contracts.abs_value.AbsValue.TheInside as ValueInside
use Rattle.program_systems.specs.pointer_dom.contracts.abs_value.AbsValueLattice.TheImpl as OfValues
use Rattle.program_systems.specs.tm_lattice.declared.lattices.Lattice as lattice
use Rattle.program_systems.specs.tm_lattice.contracts.tables.Keyed as Keyed
use Rattle.program_systems.specs.tm_lattice.contracts.tables.KeyedLattice.TheImpl as OfTables
use Rattle.program_systems.specs.cell_env.contracts.states.State as State
use Rattle.program_systems.specs.interfere_set.contracts.stores.Store as Store
use Rattle.program_systems.specs.interfere_set.contracts.stores.Store.TheInside as StoreInside
use Rattle.shared_programs.proofs.Tables.{keyed_send, keyed_sync, shared_table_send, shared_table_sync}
use Rattle.shared_programs.proofs.Tables.{state_send, state_sync}

strided_send : IsSend Strided.the_row
strided_send =
    fixed_send StridedInside.the_row _ _ OfStrided.inverse OfStrided.view OfStrided.invariant
    (as_row_send StridedInside.the_field (search sendable depth 20))

offsets_send : IsSend Offsets.the_row
offsets_send =
    fixed_send OffsetsInside.the_row _ _ OfOffsetSets.inverse OfOffsetSets.view OfOffsetSets.invariant
    (as_row_send OffsetsInside.the_field (search (strided_send, sendable) depth 20))

strided_sync : IsSync Strided.the_row
strided_sync =
    fixed_sync StridedInside.the_row _ _ OfStrided.inverse OfStrided.view OfStrided.invariant
    (as_row_sync StridedInside.the_field (search sendable depth 20))

offsets_sync : IsSync Offsets.the_row
offsets_sync =
    fixed_sync OffsetsInside.the_row _ _ OfOffsetSets.inverse OfOffsetSets.view OfOffsetSets.invariant
    (as_row_sync OffsetsInside.the_field (search (strided_sync, sendable) depth 20))

pointers_send : IsSend PointerSet.the_row
pointers_send =
    view_send PointersInside.the_row _ _ _ _
    (as_row_send PointersInside.the_field
    (struct_send (shape PointersInside.the_type)
    (search sendable, (search sendable, (shared_table_send Offsets.the_row Marks.the_row OfOffsets.ghosts offsets_send offsets_sync, tt)))))

pub value_send : IsSend AbsValue.the_row
value_send =
    view_send ValueInside.the_row _ _ _ _
    (as_row_send ValueInside.the_field (search (strided_send, pointers_send, sendable) depth 20))

pointers_sync : IsSync PointerSet.the_row
pointers_sync =
    view_sync PointersInside.the_row _ _ _ _
    (as_row_sync PointersInside.the_field
    (struct_sync (shape PointersInside.the_type)
    (search sendable, (search sendable, (shared_table_sync Offsets.the_row Marks.the_row OfOffsets.ghosts offsets_send offsets_sync, tt)))))

pub value_sync : IsSync AbsValue.the_row
value_sync =
    view_sync ValueInside.the_row _ _ _ _
    (as_row_sync ValueInside.the_field (search (strided_sync, pointers_sync, sendable) depth 20))

-- values by one number and by two
abbrev One : RattleType
One = Keyed.the_row AbsValue.the_row Marks.the_row OfValues.ghosts

abbrev of_one : lattice.Ghosts (One).Denot (Marks.the_row).Denot
of_one =
    OfTables.ghosts AbsValue.the_row Marks.the_row OfValues.ghosts OfTables.no_dict OfTables.no_dict OfTables.no_dict

abbrev Two : RattleType
Two = Keyed.the_row One Marks.the_row of_one

abbrev of_two : lattice.Ghosts (Two).Denot (Marks.the_row).Denot
of_two = OfTables.ghosts One Marks.the_row of_one OfTables.no_dict OfTables.no_dict OfTables.no_dict

pub value_state_send : IsSend (State.the_row AbsValue.the_row Marks.the_row OfValues.ghosts)
value_state_send = state_send AbsValue.the_row Marks.the_row OfValues.ghosts value_send value_sync

nested_send : IsSend (Keyed.the_row Two Marks.the_row of_two)
nested_send =
    keyed_send Two Marks.the_row of_two (keyed_send One Marks.the_row of_one
    (keyed_send AbsValue.the_row Marks.the_row OfValues.ghosts value_send))

pub store_send : IsSend Store.the_row
store_send =
    view_send StoreInside.the_row _ _ _ _
    (as_row_send StoreInside.the_field (struct_send (shape StoreInside.the_type) (nested_send, (nested_send, tt))))

pub value_state_sync : IsSync (State.the_row AbsValue.the_row Marks.the_row OfValues.ghosts)
value_state_sync = state_sync AbsValue.the_row Marks.the_row OfValues.ghosts value_send value_sync

nested_sync : IsSync (Keyed.the_row Two Marks.the_row of_two)
nested_sync =
    keyed_sync Two Marks.the_row of_two (keyed_sync One Marks.the_row of_one
    (keyed_sync AbsValue.the_row Marks.the_row OfValues.ghosts value_sync))

pub store_sync : IsSync Store.the_row
store_sync =
    view_sync StoreInside.the_row _ _ _ _
    (as_row_sync StoreInside.the_field (struct_sync (shape StoreInside.the_type) (nested_sync, (nested_sync, tt))))
