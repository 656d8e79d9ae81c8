-- What the code asks of the counts of a shift.
use Rattle.std.specs.Prelude.{ℤ, pos, ◌≤ℤ◌, ◌<ℤ◌}
use Rattle.strided_dom.specs.Progression.{Progression, Has}

-- The members are counts of a shift of some type.
pub record AreShiftCounts (b : Progression) : Type 0 where
  pub all : (y : ℤ) → Has b y → (pos 0 ≤ℤ y) × (y <ℤ pos 64)
