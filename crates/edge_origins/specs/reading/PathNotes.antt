-- What the code has noted of all call paths.
use Rattle.std.specs.Prelude.{◌≡◌, ℕ, ◌<◌, Bool, List, length, map, get_or}
use Rattle.tm_terms.specs.declared.places.Place.{Place}
use Rattle.tm_laid.specs.Layouts.{LaidTree}
use Rattle.path_origins.specs.declared.origins.Notes.{Notes}
use Rattle.path_origins.specs.Noted.{Noted, nothing}
use Rattle.path_origins.specs.Shown.{shown}
use Rattle.path_origins.specs.Bodies.{noted_path}

-- what is noted of a path
abbrev pub noted_in : List Notes → ℕ → Noted
noted_in notes path = get_or (map shown notes) path nothing

-- so many paths have been walked, and have the sizes that were taken for them
pub record AreWalked (laid : LaidTree) (is_open : Place → Bool) (sizes : ℕ → ℕ) (count : ℕ) (notes : List Notes)
    : Type 0 where
  pub count_is : length notes ≡ count
  pub noted : (path : ℕ) → path < count → noted_in notes path ≡ noted_path laid is_open sizes path
  pub sizes_are : (path : ℕ) → path < count → sizes path ≡ (noted_in notes path).size

-- all have been
abbrev pub AreNotes : LaidTree → (Place → Bool) → (ℕ → ℕ) → List Notes → Type 0
AreNotes laid is_open sizes notes = AreWalked laid is_open sizes (length laid.paths) notes
