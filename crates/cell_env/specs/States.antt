-- The state of a task at a node: its live temporaries with their copies, and its cells.
use Rattle.std.specs.Prelude.{ℕ, ◌+◌, List}
use Rattle.tm_lattice.specs.Heights.{table_height}
use Rattle.tm_lattice.specs.Tables.{Table, IsTable, IsTableBelow, joined_table, rounded_table}
use Rattle.tm_lattice.specs.Tables.{selected_table}
use Rattle.cell_env.specs.declared.cells.CellState.{CellState}
use Rattle.cell_env.specs.declared.temps.TempState.{TempState}
use Rattle.cell_env.specs.Cells.{IsCell, IsCellBelow, joined_cell, rounded_cell, cell_height}
use Rattle.cell_env.specs.Temps.{IsTemp, IsTempBelow, joined_temp, temp_height}

pub record TaskState (V N : Type 0) : Type 0 where
  pub temps : Table (TempState V N)
  pub cells : Table (CellState V N)

module _ {V N : Type 0} where
  pub record IsState (is_value : V → Type 0) (s : TaskState V N) : Type 0 where
    pub temps : IsTable (IsTemp is_value) (λ t. ⊥) s.temps
    pub cells : IsTable (IsCell is_value) (λ c. ⊥) s.cells

  -- states are compared and joined entry by entry
  pub record IsStateBelow (leq : V → V → Type 0) (s t : TaskState V N) : Type 0 where
    pub temps : IsTableBelow (IsTempBelow leq) s.temps t.temps
    pub cells : IsTableBelow (IsCellBelow leq) s.cells t.cells

  abbrev pub joined_state : (V → V → V) → TaskState V N → TaskState V N → TaskState V N
  joined_state join s t = record {
    temps = joined_table (joined_temp join) s.temps t.temps;
    cells = joined_table (joined_cell join) s.cells t.cells;
  }

  -- the values of all cells are rounded; temporaries are not
  abbrev pub rounded_state : (V → V) → TaskState V N → TaskState V N
  rounded_state round s = record s { cells = rounded_table (rounded_cell round) s.cells }

  -- the values of these cells alone are rounded, as at a head
  abbrev pub rounded_state_at : (V → V) → List ℕ → TaskState V N → TaskState V N
  rounded_state_at round cells s = record s { cells = selected_table (rounded_cell round) cells s.cells }

  -- how high a state stands, where its values have a height
  abbrev pub state_height : (V → ℕ) → TaskState V N → ℕ
  state_height height s = table_height (temp_height height) s.temps + table_height (cell_height height) s.cells
