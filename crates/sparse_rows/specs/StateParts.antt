-- The parts of a state: the temporaries are its front.
use Rattle.std.specs.Prelude.{ℕ, ℤ, List, Option}
use Rattle.std.specs.FinMap.{get}
use Rattle.std.specs.Option.{option_map}
use Rattle.sparse_tables.specs.table_covers.tm_lattice.declared.lattices.Lattice as lattice
use Rattle.sparse_tables.specs.table_covers.tm_lattice.Tables.{Table, IsBelow, IsTableBelow}
use Rattle.transfer_rows.specs.cell_env.States.{joined_state, rounded_state}
use Rattle.transfer_rows.specs.interfere_set.pointer_dom.Values.{joined_values, rounded_values}
use Rattle.transfer_rows.specs.StateForms.{Temp, Cell, State, IsTempUnder, IsCellUnder, IsStateForm, IsStateUnder}
use Rattle.sparse_tables.specs.Sparse.{Parts}

-- states with their order, joins and rounding
abbrev pub states : lattice.Ghosts State (List ℤ)
states = record {
  is_value = IsStateForm;
  is_marks = λ m. Unit {0};
  leq = IsStateUnder;
  joined = joined_state joined_values;
  rounded = λ marks. rounded_state (rounded_values marks);
  nothing = λ s. ⊥;
}

-- the temporaries, and what stands at each cell, where edges make this of cells that they carry
abbrev pub state_parts : (ℕ → ℕ → Cell → Cell) → Parts State (Table Temp) (Option Cell)
state_parts carry = record {
  front = λ s. s.temps;
  cell = λ s x. get s.cells x;
  front_leq = IsTableBelow IsTempUnder;
  cell_leq = IsBelow IsCellUnder;
  carry = λ e x. option_map (carry e x);
}
