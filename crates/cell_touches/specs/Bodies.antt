-- The cells that the copies of a body's edges touch and carry, and those at which they look.
use Rattle.std.specs.Prelude.{◌≡◌, ℕ, length}
use Rattle.tm_laid.specs.Layouts.{LaidTree}
use Rattle.mutex_configs.specs.declared.nodes.ConfiguredGraph.{ConfiguredGraph}
use Rattle.cell_placings.specs.CellLists.{cells_at}
use Rattle.cell_touches.specs.Touches.{AreSeen, IsWithin}
use Rattle.cell_touches.specs.declared.touching.BodyTouches.{BodyTouches}

-- There are cells for each copy of an edge; an edge looks at what it touches, and the body sees the cells.
pub record AreTouches (laid : LaidTree) (body : ℕ) (configured : ConfiguredGraph) (t : BodyTouches) : Type 0 where
  pub touched : length t.touched.items ≡ length configured.copies.items
  pub carried : length t.carried.items ≡ length configured.copies.items
  pub looked : length t.looked.items ≡ length configured.copies.items
  pub within : (k : ℕ) → IsWithin (cells_at t.touched.items k) (cells_at t.looked.items k)
  pub seen : AreSeen laid body t.looked.items
  pub seen_carried : AreSeen laid body t.carried.items
