-- Cells that a body sees, and lists of cells.
use Rattle.std.specs.Prelude.{◌≡◌, ℕ, ◌<◌, true, List, length}
use Rattle.tm_laid.specs.Layouts.{LaidTree, abstract_at}
use Rattle.edge_actions.specs.Layouts.{is_reachable}
use Rattle.cell_placings.specs.CellLists.{is_in, cells_at}

-- there is such an abstract cell, and its object has static storage or is on a call path of the body
abbrev pub Sees : LaidTree → ℕ → ℕ → Type 0
Sees laid body x =
    (x < length laid.abstract_cells) × (let a = abstract_at laid x in is_reachable laid body a.object ≡ true)

-- the body sees the cells of all lists
abbrev pub AreSeen : LaidTree → ℕ → List (List ℕ) → Type 0
AreSeen laid body lists = (k x : ℕ) → is_in (cells_at lists k) x ≡ true → Sees laid body x

-- the cells of the one list are in the other
abbrev pub IsWithin : List ℕ → List ℕ → Type 0
IsWithin xs ys = (x : ℕ) → is_in xs x ≡ true → is_in ys x ≡ true
