use Rattle.std.proofs.Common.{◌≡◌, ℕ, length}
use Rattle.tm_laid.specs.Layouts.{LaidTree}
use Rattle.cell_placings.specs.CellLists.{cells_at}
use Rattle.cell_touches.specs.Touches.{AreSeen, IsWithin}
use Rattle.cell_touches.proofs.touching.cells_of_copies.Given as goal

abbrev pub invariant-loop-copy : goal.invariant-loop-copy
invariant-loop-copy l = (length l.touched.items ≡ l.copy-index)
    × ((length l.carried.items ≡ l.copy-index)
    × ((length l.looked.items ≡ l.copy-index)
    × (((k : ℕ) → IsWithin (cells_at l.touched.items k) (cells_at l.looked.items k))
    × (((laid : LaidTree) (body : ℕ) → AreSeen laid body l.cells → AreSeen laid body l.looked.items)
    × ((laid : LaidTree) (body : ℕ) → AreSeen laid body l.cells → AreSeen laid body l.carried.items)))))
