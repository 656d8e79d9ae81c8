-- The mutexes of a set, of which some are left out.
use Rattle.std.specs.Prelude.{ℕ, Bool, true, false, cond, List, [], ◌∷◌, ◌++◌, decimal}
use Rattle.notes_json.specs.Pieces.{comma_if}
use Rattle.notes_json.specs.Accesses.{is_member}

-- whether others stand before
abbrev pub has_some : {A : Type 0} → List A → Bool
has_some [] = false
has_some (x ∷ xs) = true

-- a mutex, if it is in the set, behind a comma where others stand before it
abbrev pub member_if : ℕ → ℕ → Bool → List ℕ
member_if set m others = cond (is_member set m) (comma_if others ++ decimal m) []
