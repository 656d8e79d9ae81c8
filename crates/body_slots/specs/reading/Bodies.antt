-- What the code reads of a body.
use Rattle.std.specs.Prelude.{◌≡◌, ℕ, ◌<◌, ltb, ◌&&◌, Bool, List, length}
use Rattle.tm_laid.specs.Layouts.{LaidTree, abstract_at}
use Rattle.edge_actions.specs.Layouts.{is_reachable}
use Rattle.cell_placings.specs.CellLists.{is_in, cells_at}
use Rattle.task_equations.specs.Bodies.{Body}
use Rattle.task_equations.specs.Equations.{cells_at as rounded_cells}
use Rattle.body_slots.specs.Slots.{is_rounded_in}

-- the abstract cell is one of the first, and is static or of a body with this number
abbrev pub is_seen_below : LaidTree → ℕ → ℕ → ℕ → Bool
is_seen_below laid task count x = (let a = abstract_at laid x in ltb x count && is_reachable laid task a.object)

-- the abstract cell is static or of a body with this number
abbrev pub is_seen_in : LaidTree → ℕ → ℕ → Bool
is_seen_in laid task x = is_seen_below laid task (length laid.abstract_cells) x

-- the lists of the first nodes have the cells that are rounded there
abbrev pub AreRoundedBelow : Body → ℕ → List (List ℕ) → Type 0
AreRoundedBelow b count lists = (n x : ℕ) → n < count
    → is_in (cells_at lists n) x ≡ is_rounded_in (rounded_cells b n) x
