-- Layouts in which bodies begin, and what is listed of their abstract cells.
use Rattle.std.specs.Prelude.{◌≡◌, ℕ, ◌<◌, ◌≤◌, List, length, get_or}
use Rattle.tm_laid.specs.Layouts.{LaidTree, abstract_at, cell_at}
use Rattle.body_systems.specs.typed_values.Types.{IsOfType}
use Rattle.pointer_dom.specs.Values.{Values, no_value}
use Rattle.body_systems.specs.program_equations.Entries.{initial_at, initial_of}

-- cells hold values of their types at first, and there are few abstract cells
pub record BeginsInTypes (laid : LaidTree) : Type 0 where
  pub initial : (cell : ℕ) → cell < length laid.initial
      → (let a = abstract_at laid (cell_at laid cell).abstract_cell in IsOfType laid a.scalar (initial_at laid cell))
  pub few : length laid.abstract_cells ≤ 65536

-- the values of all abstract cells before anything has run, by their numbers
pub record AreInitialValues (laid : LaidTree) (values : List Values) : Type 0 where
  pub count : length values ≡ length laid.abstract_cells
  pub each : (x : ℕ) → x < length values → get_or values x no_value ≡ initial_of laid x
