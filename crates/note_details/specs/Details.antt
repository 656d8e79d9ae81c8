-- What the details of a report are.
use Rattle.std.specs.Prelude.{◌≡◌, Bool, true, false, cond, min, List, [], length}
use Rattle.tm_cint.specs.declared.Class.TheVariants as Classes
use Rattle.tm_cint.specs.declared.Class.{Class}
use Rattle.tm_terms.specs.declared.alarms.Alarm.{Alarm}
use Rattle.access_groups.specs.declared.object_access.ObjectAccess.{ObjectAccess}
use Rattle.note_details.specs.declared.alarms.AlarmDetails.{AlarmDetails}
use Rattle.note_details.specs.Races.{Told, Race, races_at}

-- an alarm of races
abbrev pub is_race_class : Class → Bool
is_race_class Classes.Race = true
is_race_class _ = false

-- the racing accesses of an alarm: those at the place of an alarm of races
abbrev pub races_of : List (List ObjectAccess) → List (List Told) → Alarm → List Race
races_of groups told alarm = cond (is_race_class alarm.class) (races_at groups told alarm.place) []

-- the first eight of the call paths are shown
abbrev pub HasPaths : AlarmDetails → Type 0
HasPaths details = length details.paths.items ≡ min 8 details.path_count
