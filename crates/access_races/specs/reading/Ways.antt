-- The ways in which cells are accessed, as the code keeps them.
use Rattle.std.specs.Prelude.{◌≡◌, ℕ, true, false, List, [], map, get_or, Contains}
use Rattle.std.specs.declared.vec.Vec.{Vec}
use Rattle.tm_cint.specs.declared.Class.TheVariants.{Race}
use Rattle.tm_terms.specs.declared.alarms.Alarm.{Alarm}
use Rattle.access_races.specs.declared.accesses.Way.{Way}
use Rattle.access_races.specs.declared.accesses.Access.{Access}
use Rattle.access_races.specs.Races.{do_race}

-- what stands in place of an access that there is not
abbrev pub no_access : Access
no_access = record {
  cell = 0;
  way = record { task = 0; priority = 0; held = 0; found = 0; writes = false };
  place = record { line = 0; col = 0 };
}

-- the list with a number, empty where there is none
abbrev pub list_at : {X A : Type 0} → List (Vec X A) → ℕ → List X
list_at lists n = get_or (map (λ list. list.items) lists) n []

-- it holds of one of them
pub record HasOne {X : Type 0} (Is : X → Type 0) (xs : List X) : Type 0 where
  pub one : X
  pub has : Contains xs one
  pub is : Is one

-- the cell is accessed in this way
pub record IsWayTo (accesses : List Access) (to : ℕ) (by : Way) : Type 0 where
  pub access : Access
  pub has : Contains accesses access
  pub cell : access.cell ≡ to
  pub way : access.way ≡ by

-- the way races with one of these
pub record IsRacingIn (ways : List Way) (way : Way) : Type 0 where
  pub other : Way
  pub has : Contains ways other
  pub races : do_race way other ≡ true

-- the alarm of an access that races
pub record IsAlarmIn {A : Type 0} (ways : List (Vec Way A)) (accesses : List Access) (a : Alarm) : Type 0 where
  pub access : Access
  pub has : Contains accesses access
  pub races : IsRacingIn (list_at ways access.cell) access.way
  pub is : a ≡ record { place = access.place; class = Race }
