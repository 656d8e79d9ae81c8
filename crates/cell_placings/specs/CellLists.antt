-- Lists of cells.
use Rattle.std.specs.Prelude.{ℕ, ◌==◌, Bool, List, [], slice_index_or}
use Rattle.std.specs.List.{list_any}

-- the cell stands in the list
abbrev pub is_in : List ℕ → ℕ → Bool
is_in cells x = list_any (λ y. y == x) cells

-- the list of this number, or no cell
abbrev pub cells_at : List (List ℕ) → ℕ → List ℕ
cells_at lists k = slice_index_or lists k []
