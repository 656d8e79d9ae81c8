-- Which accesses race, and what a report of alarms and accesses is.
use Rattle.std.specs.Prelude.{◌≡◌, ◌↔◌, ◌⊎◌, ◌==◌, nat_lt, not, ◌&&◌, ◌||◌, Bool, true, List, Contains}
use Rattle.tm_cint.specs.declared.Class.TheVariants.{Race}
use Rattle.tm_terms.specs.declared.alarms.Alarm.{Alarm}
use Rattle.tm_terms.specs.declared.places.Place.{Place}
use Rattle.tm_terms.specs.Alarms.{IsStrictlySorted}
use Rattle.interfere_set.specs.Stores.{are_apart}
use Rattle.access_races.specs.declared.accesses.Way.{Way}
use Rattle.access_races.specs.declared.accesses.Access.{Access}

-- where the first task is less urgent, no mutex that it holds was found free by the other
abbrev pub is_unhindered : Way → Way → Bool
is_unhindered one other = not (nat_lt one.priority other.priority) || are_apart one.held other.found

-- two accesses to one cell race: they are of different tasks, one of them writes, no mutex is held by both, and none
-- that the less urgent one holds was found free by the other
abbrev pub do_race : Way → Way → Bool
do_race one other =
    not (one.task == other.task) && (one.writes || other.writes) && are_apart one.held other.held
    && is_unhindered one other && is_unhindered other one

module _ (accesses : List Access) where
  -- one of two accesses that race stands at the place
  pub record IsRaceAt (place : Place) : Type 0 where
    pub one : Access
    pub other : Access
    pub has_one : Contains accesses one
    pub has_other : Contains accesses other
    pub cell : other.cell ≡ one.cell
    pub races : do_race one.way other.way ≡ true
    pub placed : one.place ≡ place

  pub record IsRaceAlarm (a : Alarm) : Type 0 where
    pub class : a.class ≡ Race
    pub race : IsRaceAt a.place

  -- exactly these alarms and those of accesses that race, in order and without repeats
  pub record IsReportOf (alarms report : List Alarm) : Type 0 where
    pub sorted : IsStrictlySorted report
    pub exact : (a : Alarm) → Contains report a ↔ (Contains alarms a ⊎ IsRaceAlarm a)
