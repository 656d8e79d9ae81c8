-- What the code holds of races.
use Rattle.std.specs.Prelude.{List, [], Vec, Option, Some, None}
use Rattle.std.specs.declared.alloc.Global.{Global}
use Rattle.indexmap.specs.IndexMap.{IndexMap, get}
use Rattle.tm_terms.specs.declared.places.Place.{Place}
use Rattle.access_partners.specs.declared.details.AccessDetails.{AccessDetails}
use Rattle.note_details.specs.declared.races.Racer.{Racer}
use Rattle.note_details.specs.Races.{Told, nothing_told, told, is_same_place}

-- what is told of an access, if it is
abbrev pub told_or_nothing : Option AccessDetails → Told
told_or_nothing None = nothing_told
told_or_nothing (Some d) = told d

abbrev pub row_of : Option (Vec Racer Global) → List Racer
row_of None = []
row_of (Some v) = v.items

-- the racing accesses that are kept for a place
abbrev pub row_at : {S : Type 0} → IndexMap Place (Vec Racer Global) S → Place → List Racer
row_at rows place = row_of (get is_same_place rows place)
