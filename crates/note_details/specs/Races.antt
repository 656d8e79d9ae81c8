-- The racing accesses at a place, of groups by objects.
use Rattle.std.specs.Prelude.{ℕ, suc, Bool, ◌&&◌, ◌==◌, cond, List, [], ◌∷◌, ◌++◌, map, filter, get_or, Vec}
use Rattle.std.specs.declared.alloc.Global.{Global}
use Rattle.tm_terms.specs.declared.places.Place.{Place}
use Rattle.access_groups.specs.declared.object_access.ObjectAccess.{ObjectAccess}
use Rattle.access_groups.specs.declared.object_access.AccessGroup.{AccessGroup}
use Rattle.access_partners.specs.declared.details.AccessDetails.{AccessDetails}
use Rattle.note_details.specs.declared.races.Racer.{Racer}
use Rattle.note_details.specs.declared.races.RaceAccess.{RaceAccess}

abbrev pub is_same_place : Place → Place → Bool
is_same_place p q = (p.line == q.line) && (p.col == q.col)

-- an access stands at a place
abbrev pub is_at : Place → Racer → Bool
is_at place r = is_same_place r.access.place place

-- an access of a group, if it races
abbrev pub racer_if : Racer → List Racer
racer_if r = cond r.access.racing (r ∷ []) []

-- the racing accesses of a group, by its number and theirs, of which the first is this
abbrev pub racers_in : ℕ → ℕ → List ObjectAccess → List Racer
racers_in group number [] = []
racers_in group number (a ∷ more) =
    racer_if (record { group = group; number = number; access = a }) ++ racers_in group (suc number) more

-- those of groups, of which the first has this number
abbrev pub all_racers : ℕ → List (List ObjectAccess) → List Racer
all_racers group [] = []
all_racers group (accesses ∷ groups) = racers_in group 0 accesses ++ all_racers (suc group) groups

-- what is told of an access: with how many accesses it races, and the first of these
pub record Told : Type 0 where
  pub partner_count : ℕ
  pub partners : List ObjectAccess

abbrev pub nothing_told : Told
nothing_told = record { partner_count = 0; partners = [] }

abbrev pub told_at : List (List Told) → Racer → Told
told_at told r = get_or (get_or told r.group []) r.number nothing_told

-- a racing access as it is noted, but for the text of its member
pub record Race : Type 0 where
  pub race : ℕ
  pub task : ℕ
  pub stores : Bool
  pub held : ℕ
  pub partner_count : ℕ
  pub partners : List ObjectAccess

abbrev pub race_of : List (List Told) → Racer → Race
race_of told r = record {
  race = r.group;
  task = r.access.task;
  stores = r.access.stores;
  held = r.access.held;
  partner_count = (told_at told r).partner_count;
  partners = (told_at told r).partners;
}

-- the racing accesses of groups at a place, in the order of the groups and of their accesses
abbrev pub races_at : List (List ObjectAccess) → List (List Told) → Place → List Race
races_at groups told place = map (race_of told) (filter (is_at place) (all_racers 0 groups))

-- ## What the code holds, as plain records

abbrev pub race_seen : RaceAccess → Race
race_seen r = record {
  race = r.race;
  task = r.task;
  stores = r.stores;
  held = r.held;
  partner_count = r.partner_count;
  partners = r.partners.items;
}

abbrev pub accesses_of : List AccessGroup → List (List ObjectAccess)
accesses_of groups = map (λ g. g.accesses.items) groups

abbrev pub told : AccessDetails → Told
told d = record { partner_count = d.partner_count; partners = d.partners.items }

abbrev pub told_of : List (Vec AccessDetails Global) → List (List Told)
told_of accesses = map (λ row. map told row.items) accesses

abbrev pub races_seen : Vec RaceAccess Global → List Race
races_seen accesses = map race_seen accesses.items
