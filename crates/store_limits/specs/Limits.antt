-- How high the stores of a program may stand, what an end of its passes is, and what it is to have a least solution.
use Rattle.std.specs.Prelude.{ℕ, suc, ◌+◌, ◌*◌, List, ◌∷◌, length, Option}
use Rattle.program_equations.specs.tm_lattice.Rounds.{IsHistory, IsClosed}
use Rattle.program_equations.specs.interfere_set.Stores.{Interferences, joined_store, rounded_store}
use Rattle.program_equations.specs.transfer_rows.StateForms.{State}
use Rattle.program_equations.specs.value_heights.Heights.{value_height}
use Rattle.program_equations.specs.table_covers.Solutions.{NodeTable}
use Rattle.program_equations.specs.state_fits.Tops.{all_values}
use Rattle.program_equations.specs.Programs.{ProgramBodies}
use Rattle.program_equations.specs.Systems.{stores, pass_of}
use Rattle.program_equations.specs.Solutions.{passing, IsWholeLeast}

-- ## How high stores stand

-- how high a table may stand that has so many keys, where each value is at most so high: each entry counts one more
abbrev pub table_limit : ℕ → ℕ → ℕ
table_limit keys height = keys * suc height

-- how high the value of a cell may stand: all numbers of the integer types, and all pointers of the program
abbrev pub value_limit : ProgramBodies → ℕ
value_limit p = value_height (all_values p.laid)

-- how high the values of all cells may stand together
abbrev pub cells_limit : ProgramBodies → ℕ
cells_limit p = table_limit (length p.laid.abstract_cells) (value_limit p)

-- how high the entries of all tasks may stand together, each under so many sets of mutexes or mutexes
unfoldable pub entries_limit : ProgramBodies → ℕ → ℕ
entries_limit p sets = table_limit p.tasks (table_limit sets (cells_limit p))

-- No store that fits the program stands higher: weak entries are under one of 65,536 sets of sixteen mutexes, and sync
-- entries under one of the mutexes.
abbrev pub store_limit : ProgramBodies → ℕ
store_limit p = entries_limit p 65536 + entries_limit p 16

-- ## Ends of passes

-- the store after the publication of a task that read the store itself
abbrev pub published : ProgramBodies → ℕ → Interferences → Interferences
published p t store = rounded_store p.marks (joined_store store (pass_of p t store))

-- a store with those before it, the newest first: each came by a publication, and no pass adds to the newest
pub record EndsIn (p : ProgramBodies) : Type 0 where
  pub store : Interferences
  pub earlier : List Interferences
  pub history : IsHistory stores passing p (store ∷ earlier)
  pub closed : IsClosed stores passing p store

-- ## Least solutions

-- a table of the initial section, tables of the tasks and a store that are the least solution of the program
pub record HasWholeLeast (p : ProgramBodies) : Type 0 where
  pub section : List (Option State)
  pub tables : ℕ → NodeTable State
  pub store : Interferences
  pub least : IsWholeLeast p section tables store
