-- The store of what an operation adds.
use Rattle.std.specs.Prelude.{ℕ, cond, eqb, List, [], ◌∷◌, Option, Some, None}
use Rattle.std.specs.FinMap as tables
use Rattle.std.specs.FinMap.{insert, len, keys}
use Rattle.cell_env.specs.tm_lattice.Tables.{Table}
use Rattle.interfere_set.specs.pointer_dom.Values.{Values, no_value}
use Rattle.interfere_set.specs.Stores.{Nested, Interferences, no_interference, left_at}
use Rattle.transfer_rows.specs.StateForms.{State, is_no_value}
use Rattle.transfer_rows.specs.Actions.{Around, Action, stores, unlocks}
use Rattle.transfer_rows.specs.Reports.{targets_of, weak_of, sync_of}

-- the values of these cells, without those that are nothing
abbrev pub cells_added : (ℕ → Values) → List ℕ → Table Values
cells_added value [] = tables.empty
cells_added value (x ∷ xs) =
    cond (is_no_value (value x)) (cells_added value xs) (insert (cells_added value xs) x (value x))

-- one table of cells, if it has some, under a task and a set of mutexes, or a mutex
abbrev pub nested_under : ℕ → ℕ → Table Values → Nested
nested_under task set cells = cond (eqb (len cells) 0) tables.empty
    (insert tables.empty task (insert tables.empty set cells))

module _ (around : Around) where
  -- a store adds to weak entries, and an unlock to sync entries
  unfoldable pub added : Action → State → Interferences
  added (stores spots address source) s = record {
    weak = nested_under around.reader.task around.reader.held
        (cells_added (weak_of around (stores spots address source) s) (targets_of (stores spots address source) s));
    sync = tables.empty;
  }
  added (unlocks m) s = record {
    weak = tables.empty;
    sync = nested_under around.reader.task m (cells_added (sync_of around (unlocks m) s m) (keys s.cells));
  }
  added action s = no_interference

-- what stands in an entry of a store; nothing where there is none
abbrev pub at_task : ℕ → ℕ → Option (Table (Table Values)) → Values
at_task set x None = no_value
at_task set x (Some written) = left_at set x written

abbrev pub entry_at : Nested → ℕ → ℕ → ℕ → Values
entry_at n task set x = at_task set x (tables.get n task)
