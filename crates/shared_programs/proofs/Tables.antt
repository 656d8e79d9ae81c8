-- Tables and trees may be sent to other threads, and be shared by them, where their values may.
use denote.RattleType.{RattleType}
use denote.Param.Send.{IsSend, IsSync, struct_send, struct_sync, view_send, view_sync, sendable}
use denote.Param.SendFields.{as_row_send, as_row_sync}
use denote.Builtin.{u32}
use denote.Struct.Declared.{shape}
use denote.Struct.Tuple.{Tuple, tuple_type, tuple_field}
use Rattle.std.specs.Prelude.{List, [], ◌∷◌}
use Rattle.std.proofs.Crossing.{Vec-send, Vec-sync, Arc-send, Arc-sync}
use Rattle.program_systems.specs.tm_lattice.declared.lattices.Lattice as lattice
use Rattle.program_systems.specs.tm_lattice.contracts.tables.Keyed as Keyed
use Rattle.program_systems.specs.tm_lattice.contracts.tables.Keyed.TheInside as KeyedInside
use Rattle.program_systems.specs.pointer_dom.shared_tables.contracts.tables.SharedTable as SharedTable
use Rattle.program_systems.specs.pointer_dom.shared_tables.contracts.tables.SharedTable.TheInside as SharedInside
use Rattle.program_systems.specs.pointer_dom.shared_tables.contracts.tables.SharedTableLattice.TheImpl as OfTables
use Rattle.program_systems.specs.state_tree.contracts.branches.Branches as Branches
use Rattle.program_systems.specs.state_tree.contracts.branches.Branches.TheInside as BranchesInside
use Rattle.program_systems.specs.state_tree.contracts.trees.Tree as Tree
use Rattle.program_systems.specs.state_tree.contracts.trees.Tree.TheInside as TreeInside
use Rattle.program_systems.specs.cell_env.contracts.cells.CellState as CellState
use Rattle.program_systems.specs.cell_env.contracts.cells.CellStateLattice.TheImpl as OfCells
use Rattle.program_systems.specs.cell_env.contracts.states.State as State
use Rattle.program_systems.specs.cell_env.contracts.states.State.TheInside as StateInside
use Rattle.program_systems.specs.cell_env.contracts.temps.TempState as TempState
use Rattle.program_systems.specs.cell_env.contracts.temps.TempStateLattice.TheImpl as OfTemps

module _ (V M : RattleType) (g : lattice.Ghosts V.Denot M.Denot) where
  -- a key and a value
  abbrev Entry : List RattleType
  Entry = u32 ∷ V ∷ []

  entry_send : IsSend V → IsSend (Tuple Entry)
  entry_send v =
      as_row_send (tuple_field Entry) (struct_send (shape (tuple_type Entry)) (search sendable depth 20, (v, tt)))

  pub keyed_send : IsSend V → IsSend (Keyed.the_row V M g)
  keyed_send v =
      view_send (KeyedInside.the_row V M g) _ _ _ _
      (as_row_send (KeyedInside.the_field V M g)
      (struct_send (shape (KeyedInside.the_type V M g)) (Vec-send (Tuple Entry) (entry_send v), tt)))

  entry_sync : IsSync V → IsSync (Tuple Entry)
  entry_sync v =
      as_row_sync (tuple_field Entry) (struct_sync (shape (tuple_type Entry)) (search sendable depth 20, (v, tt)))

  pub keyed_sync : IsSync V → IsSync (Keyed.the_row V M g)
  keyed_sync v =
      view_sync (KeyedInside.the_row V M g) _ _ _ _
      (as_row_sync (KeyedInside.the_field V M g)
      (struct_sync (shape (KeyedInside.the_type V M g)) (Vec-sync (Tuple Entry) (entry_sync v), tt)))

  pub shared_table_send : IsSend V → IsSync V → IsSend (SharedTable.the_row V M g)
  shared_table_send v w =
      let k = keyed_send v in
      let l = keyed_sync w in
      view_send (SharedInside.the_row V M g) _ _ _ _
      (as_row_send (SharedInside.the_field V M g) (search (Arc-send, sendable) depth 20))

  pub shared_table_sync : IsSend V → IsSync V → IsSync (SharedTable.the_row V M g)
  shared_table_sync v w =
      let k = keyed_send v in
      let l = keyed_sync w in
      view_sync (SharedInside.the_row V M g) _ _ _ _
      (as_row_sync (SharedInside.the_field V M g) (search (Arc-sync, sendable) depth 20))

module _ (V M : RattleType) (g : lattice.Ghosts V.Denot M.Denot) where
  branches_send : IsSend V → IsSync V → IsSend (Branches.the_row V M g)
  branches_send v w =
      view_send (BranchesInside.the_row V M g) _ _ _ _
      (as_row_send (BranchesInside.the_field V M g)
      (struct_send (shape (BranchesInside.the_type V M g)) (
        search sendable depth 20,
        (
          shared_table_send (SharedTable.the_row V M g) M
              (OfTables.ghosts V M g OfTables.no_dict OfTables.no_dict OfTables.no_dict) (shared_table_send V M g v w)
              (shared_table_sync V M g v w),
          tt,
        ),
      )))

  branches_sync : IsSend V → IsSync V → IsSync (Branches.the_row V M g)
  branches_sync v w =
      view_sync (BranchesInside.the_row V M g) _ _ _ _
      (as_row_sync (BranchesInside.the_field V M g)
      (struct_sync (shape (BranchesInside.the_type V M g)) (
        search sendable depth 20,
        (
          shared_table_sync (SharedTable.the_row V M g) M
              (OfTables.ghosts V M g OfTables.no_dict OfTables.no_dict OfTables.no_dict) (shared_table_send V M g v w)
              (shared_table_sync V M g v w),
          tt,
        ),
      )))

module _ (V M : RattleType) (g : lattice.Ghosts V.Denot M.Denot) where
  pub tree_send : IsSend V → IsSync V → IsSend (Tree.the_row V M g)
  tree_send v w =
      view_send (TreeInside.the_row V M g) _ _ _ _
      (as_row_send (TreeInside.the_field V M g)
      (struct_send (shape (TreeInside.the_type V M g)) (
        search sendable depth 20,
        (
          branches_send (SharedTable.the_row V M g) M
              (OfTables.ghosts V M g OfTables.no_dict OfTables.no_dict OfTables.no_dict) (shared_table_send V M g v w)
              (shared_table_sync V M g v w),
          tt,
        ),
      )))

  pub tree_sync : IsSend V → IsSync V → IsSync (Tree.the_row V M g)
  tree_sync v w =
      view_sync (TreeInside.the_row V M g) _ _ _ _
      (as_row_sync (TreeInside.the_field V M g)
      (struct_sync (shape (TreeInside.the_type V M g)) (
        search sendable depth 20,
        (
          branches_sync (SharedTable.the_row V M g) M
              (OfTables.ghosts V M g OfTables.no_dict OfTables.no_dict OfTables.no_dict) (shared_table_send V M g v w)
              (shared_table_sync V M g v w),
          tt,
        ),
      )))

module _ (V M : RattleType) (g : lattice.Ghosts V.Denot M.Denot) where
  pub temp_send : IsSend V → IsSend (TempState.the_row V M)
  temp_send v = as_row_send (TempState.the_field V M) (search (v, sendable) depth 20)

  pub cell_send : IsSend V → IsSend (CellState.the_row V M)
  cell_send v = as_row_send (CellState.the_field V M) (search (v, sendable) depth 20)

  pub temp_sync : IsSync V → IsSync (TempState.the_row V M)
  temp_sync v = as_row_sync (TempState.the_field V M) (search (v, sendable) depth 20)

  pub cell_sync : IsSync V → IsSync (CellState.the_row V M)
  cell_sync v = as_row_sync (CellState.the_field V M) (search (v, sendable) depth 20)

  pub state_send : IsSend V → IsSync V → IsSend (State.the_row V M g)
  state_send v w =
      view_send (StateInside.the_row V M g) _ _ _ _
      (as_row_send (StateInside.the_field V M g)
      (struct_send (shape (StateInside.the_type V M g)) (
        keyed_send (TempState.the_row V M) M (OfTemps.ghosts V M g OfTemps.no_dict OfTemps.no_dict OfTemps.no_dict)
            (temp_send v),
        (
          tree_send (CellState.the_row V M) M (OfCells.ghosts V M g OfCells.no_dict OfCells.no_dict OfCells.no_dict)
              (cell_send v) (cell_sync w),
          tt,
        ),
      )))

  pub state_sync : IsSend V → IsSync V → IsSync (State.the_row V M g)
  state_sync v w =
      view_sync (StateInside.the_row V M g) _ _ _ _
      (as_row_sync (StateInside.the_field V M g)
      (struct_sync (shape (StateInside.the_type V M g)) (
        keyed_sync (TempState.the_row V M) M (OfTemps.ghosts V M g OfTemps.no_dict OfTemps.no_dict OfTemps.no_dict)
            (temp_sync w),
        (
          tree_sync (CellState.the_row V M) M (OfCells.ghosts V M g OfCells.no_dict OfCells.no_dict OfCells.no_dict)
              (cell_send v) (cell_sync w),
          tt,
        ),
      )))
