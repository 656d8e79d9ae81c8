-- What an access reaches.
use Rattle.std.specs.Prelude.{◌≡◌, ℕ, zero, suc, ◌+◌, ◌*◌, ℤ, pos, ◌+ℤ◌, Bool, true, false, ◌&&◌, ◌||◌, not, cond, eqb}
use Rattle.std.specs.Prelude.{List, [], ◌∷◌, Option, Some, None}
use Rattle.std.specs.List.{list_any, list_all}
use Rattle.std.specs.Ordering.{int_eq}
use Rattle.interfere_set.specs.strided_dom.Progression.{Progression, empty, single, row}
use Rattle.interfere_set.specs.pointer_dom.PointerSets.{Pointers, offsets_at}
use Rattle.transfer_rows.specs.Actions.{Spot}

-- v is one of the numbers from first on in steps of gap + 1, of which `more` follow the first
unfoldable pub has_step : ℤ → ℕ → ℕ → ℤ → Bool
has_step first gap zero v = int_eq v first
has_step first gap (suc more) v = int_eq v (first +ℤ pos (suc more * (gap + 1))) || has_step first gap more v

-- v is a member of the set
abbrev pub has_number : Progression → ℤ → Bool
has_number empty v = false
has_number (single w) v = int_eq v w
has_number (row first gap more) v = has_step first gap (more + 1) v

-- the pointer to the object at the offset is in the set
abbrev pub leads : Pointers → ℕ → ℕ → Bool
leads p object offset = has_number (offsets_at p object).offsets (pos offset)

-- the number is in the list
abbrev pub is_among : List ℕ → ℕ → Bool
is_among xs x = list_any (eqb x) xs

-- the one list has what the other has
pub record AreAmong (xs ys : List ℕ) : Type 0 where
  pub among : (x : ℕ) → is_among xs x ≡ true → is_among ys x ≡ true

-- the targets of an access: the abstract cells of those of its addresses that are spots
abbrev pub targets_at : List Spot → Pointers → List ℕ
targets_at [] p = []
targets_at (spot ∷ spots) p =
    cond (leads p spot.object spot.offset) (spot.cell ∷ targets_at spots p) (targets_at spots p)

-- an access is single where there is one target, and it is not smashed
abbrev pub single_of : (ℕ → Bool) → List ℕ → Option ℕ
single_of is_smashed [] = None
single_of is_smashed (x ∷ xs) = cond (list_all (eqb x) xs && not (is_smashed x)) (Some x) None
