-- What integer cells of objects hold in a world.
use Rattle.std.specs.Prelude.{◌≡◌, ℕ, ℤ, ◌≤ℤ◌, List, Contains, get_or, Option, Some, None}
use Rattle.sound_tables.specs.concrete_values.declared.values.Value.TheVariants.{Number}
use Rattle.sound_tables.specs.concrete_steps.declared.worlds.Content.TheVariants.{Is}
use Rattle.sound_tables.specs.tm_laid.Layouts.{LaidTree}
use Rattle.sound_tables.specs.concrete_steps.Worlds.{World}
use Rattle.sound_tables.specs.concrete_steps.Occurring.{IsReached}
use Rattle.sound_tables.specs.concrete_steps.Moves.{content_of}
use Rattle.sound_tables.specs.program_equations.Programs.{ProgramBodies}
use Rattle.sound_tables.specs.program_shape.Shape.{abstract_of_cell}
use Rattle.value_ranges.specs.declared.object_bounds.ObjectBounds.{ObjectBounds}
use Rattle.value_ranges.specs.Ranges.{IsIntegerCell}

-- an integer cell of an object of static storage holds a number
pub record HoldsNumber (p : ProgramBodies) (w : World) (object cell : ℕ) (n : ℤ) : Type 0 where
  pub of : IsIntegerCell p.laid object (abstract_of_cell p.laid cell)
  pub holds : content_of w cell ≡ Is (Number n)

-- the number is within the bounds that are listed of the object
pub record IsWithin (list : List ObjectBounds) (object : ℕ) (n : ℤ) : Type 0 where
  pub bounds : ObjectBounds
  pub has : Contains list bounds
  pub of : bounds.object ≡ object
  pub low : bounds.low ≤ℤ n
  pub high : n ≤ℤ bounds.high

-- the number is within the bounds of the abstract cell
pub record IsWithinCell (bounds : List (Option ObjectBounds)) (x : ℕ) (n : ℤ) : Type 0 where
  pub own : ObjectBounds
  pub is : get_or bounds x None ≡ Some own
  pub low : own.low ≤ℤ n
  pub high : n ≤ℤ own.high

-- what integer cells of static storage hold in the worlds that runs reach is within the bounds of their abstract cells
abbrev pub StayWithinCells : LaidTree → ProgramBodies → List (Option ObjectBounds) → Type 0
StayWithinCells laid p bounds = (w : World) → IsReached laid w → (object cell : ℕ) (n : ℤ)
    → HoldsNumber p w object cell n → IsWithinCell bounds (abstract_of_cell p.laid cell) n
