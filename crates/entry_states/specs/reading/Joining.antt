-- How what cells hold at first is joined, cell by cell.
use Rattle.std.specs.Prelude.{◌≡◌, ℕ, ◌<◌, List, length, get_or, slice_set}
use Rattle.tm_laid.specs.Layouts.{LaidTree}
use Rattle.pointer_dom.specs.Values.{Values, no_value, joined_values}
use Rattle.body_systems.specs.program_equations.Entries.{initial_below}

-- one more value is joined in at a number
abbrev pub with_joined : List Values → ℕ → Values → List Values
with_joined values x v = slice_set values x (joined_values (get_or values x no_value) v)

-- what the cells below a number hold at first is joined
pub record AreJoinedBelow (laid : LaidTree) (cell : ℕ) (values : List Values) : Type 0 where
  pub count : length values ≡ length laid.abstract_cells
  pub each : (x : ℕ) → x < length values → get_or values x no_value ≡ initial_below laid cell x
