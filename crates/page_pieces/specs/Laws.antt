-- The law of escaped texts.
use Rattle.std.specs.Prelude.{◌≡◌, ℕ, ◌==◌, Bool, true, not, ◌&&◌, ◌||◌, List, [], ◌∷◌, take, codes, bytes_eq}
use Rattle.page_pieces.specs.Pieces.{escaped}

-- `<`, `>`, `"` and `'`, which begin or end a tag or the value of an attribute
abbrev pub is_markup : ℕ → Bool
is_markup b = b == 60 || (b == 62 || (b == 34 || b == 39))

-- behind `&` stands the rest of one of the five references
abbrev pub ends_reference : List ℕ → Bool
ends_reference text =
    bytes_eq (take 4 text) (codes "amp;") || (bytes_eq (take 3 text) (codes "lt;")
    || (bytes_eq (take 3 text) (codes "gt;") || (bytes_eq (take 5 text) (codes "quot;")
    || bytes_eq (take 4 text) (codes "#39;"))))

-- no byte is markup, and each `&` begins one of the five references
abbrev pub is_plain : List ℕ → Bool
is_plain [] = true
is_plain (b ∷ text) = (not (is_markup b) && (not (b == 38) || ends_reference text)) && is_plain text

-- no text puts markup on a page
abbrev pub NoMarkup : Type 0
NoMarkup = (text : List ℕ) → is_plain (escaped text) ≡ true
