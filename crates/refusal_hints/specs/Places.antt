-- Where a place stands in a text.
use Rattle.std.specs.Prelude.{ℕ, ◌+◌, ◌==◌, ◌&&◌, Bool, List, [], ◌∷◌, Option, Some, None, if◌then◌else◌}
use Rattle.tm_terms.specs.Spelling.{first_place, next_place}
use Rattle.tm_terms.specs.declared.places.Place.{Place}

-- these are one place
abbrev pub is_same : Place → Place → Bool
is_same a b = a.line == b.line && a.col == b.col

-- the number of the byte at a place, where the text begins at byte k, and its first byte has the place `at`
abbrev pub offset_from : ℕ → Place → Place → List ℕ → Option ℕ
offset_from k at place [] = None
offset_from k at place (b ∷ text) =
    if is_same at place then Some k else offset_from (k + 1) (next_place at b) place text

-- how many bytes of a text stand before a place, if it has a byte there
abbrev pub offset_of : List ℕ → Place → Option ℕ
offset_of text place = offset_from 0 first_place place text
