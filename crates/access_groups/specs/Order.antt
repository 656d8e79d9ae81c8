-- The order of an object's accesses.
use Rattle.std.specs.Prelude.{◌≡◌, ◌⊎◌, ℕ, ◌<◌, cond, List, [], ◌∷◌}
use Rattle.access_groups.specs.declared.object_access.ObjectAccess.{ObjectAccess}

-- what decides: the line, then the column, then the task, then whether it stores, then the mutexes that are held
abbrev pub sort_key : ObjectAccess → List ℕ
sort_key e = e.place.line ∷ e.place.col ∷ e.task ∷ cond e.stores 1 0 ∷ e.held ∷ []

-- the first numbers that differ decide
abbrev pub AreBefore : List ℕ → List ℕ → Type 0
AreBefore (m ∷ ms) (n ∷ ns) = (m < n) ⊎ ((m ≡ n) × AreBefore ms ns)
AreBefore ms ns = ⊥

abbrev pub IsBefore : ObjectAccess → ObjectAccess → Type 0
IsBefore e f = AreBefore (sort_key e) (sort_key f)
