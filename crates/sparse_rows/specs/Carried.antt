-- What an operation makes of a cell that it changes by itself, whatever else stands in the state.
use Rattle.std.specs.Prelude.{ℕ, false}
use Rattle.transfer_rows.specs.interfere_set.Stores.{Interferences}
use Rattle.transfer_rows.specs.StateForms.{Cell}
use Rattle.transfer_rows.specs.Actions.{Around, Action, locks, unlocks, yields, probes}
use Rattle.transfer_rows.specs.Rows.{aged, released, taken}

-- At a lock, and where a mutex is found free, what the others left under it is there; at a lock and a yield the cell is
-- no longer fresh; at an unlock the mutex is pending no more. Other operations carry each cell as it is.
unfoldable pub carried_by : Around → Action → Interferences → ℕ → Cell → Cell
carried_by around (locks m) store x c = aged (taken around store m x c)
carried_by around (unlocks m) store x c = released m c
carried_by around yields store x c = aged c
carried_by around (probes m target false) store x c = taken around store m x c
carried_by around action store x c = c

-- what each edge makes of each cell that it carries
abbrev pub carry_of : (ℕ → Around) → (ℕ → Action) → Interferences → ℕ → ℕ → Cell → Cell
carry_of around action store e x = carried_by (around e) (action e) store x
