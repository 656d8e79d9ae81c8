-- The places of the signs `(` of a source: there stand casts.
use Rattle.std.specs.Prelude.{Bool, false, ◌||◌, List, [], ◌∷◌}
use Rattle.tm_terms.specs.declared.places.Place.{Place}
use Rattle.body_builder.specs.lowering.Table.{is_same_place}

-- a place is one of these
abbrev pub is_among : List Place → Place → Bool
is_among [] p = false
is_among (q ∷ places) p = is_same_place q p || is_among places p
