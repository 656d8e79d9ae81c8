-- How the code finds objects of static storage by their names: where a name stands last, and last up to a place.
use Rattle.std.specs.Prelude.{ℕ, suc, cond, ◌&&◌, List, [], ◌∷◌, map, Option, Some, None, option_map}
use Rattle.tm_terms.specs.declared.places.Place.{Place}
use Rattle.tm_terms.specs.declared.tokens.Name.{Name}
use Rattle.tm_terms.specs.Names.{is_same_name}
use Rattle.tm_typed.specs.States.{Static}
use Rattle.text_choices.specs.declared.static_names.Declared.{Declared}
use Rattle.text_choices.specs.Initialisers.{or_later, is_not_before}

-- a name, and where it is declared
pub record Named : Type 0 where
  pub name : Name
  pub place : Place

abbrev pub named_static : Static → Named
named_static s = record { name = s.name; place = s.place }

abbrev pub named_by : Declared → Named
named_by d = record { name = d.name; place = d.place }

abbrev pub names_of : List Declared → List Named
names_of ds = map named_by ds

-- the position of the last of some names that is this one
abbrev pub last_position : List Named → Name → Option ℕ
last_position [] n = None
last_position (x ∷ xs) n =
    or_later (option_map suc (last_position xs n)) (cond (is_same_name x.name n) (Some 0) None)

-- of the last that is this one and is declared at a place or before it
abbrev pub last_at : List Named → Name → Place → Option ℕ
last_at [] n p = None
last_at (x ∷ xs) n p = or_later (option_map suc (last_at xs n p))
    (cond (is_same_name x.name n && is_not_before p x.place) (Some 0) None)

-- what the index says of a name; none where it has no entry
abbrev pub joined : {A : Type 0} → Option (Option A) → Option A
joined None = None
joined (Some o) = o
