-- The order of places in the text.
use Rattle.std.specs.Prelude.{◌≡◌, ◌<◌, ◌⊎◌, List, [], ◌∷◌}
use Rattle.tm_terms.specs.declared.places.Place.{Place}

-- by line, then by column
abbrev pub PlaceBefore : Place → Place → Type 0
PlaceBefore p q = (p.line < q.line) ⊎ ((p.line ≡ q.line) × (p.col < q.col))

-- each place comes before the next one: sorted, without repeats
abbrev pub AreInOrder : List Place → Type 0
AreInOrder [] = Unit {0}
AreInOrder (p ∷ []) = Unit {0}
AreInOrder (p ∷ q ∷ places) = PlaceBefore p q × AreInOrder (q ∷ places)
