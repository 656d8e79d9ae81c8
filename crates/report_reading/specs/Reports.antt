-- Which JSON values are reports.
use Rattle.std.specs.Prelude.{◌≡◌, ◌<◌, ◌^◌, List, [], ◌∷◌, length}
use Rattle.serde_json.specs.Data.{Data}
use Rattle.tm_terms.specs.declared.alarms.Alarm.{Alarm}
use Rattle.report_json.specs.JsonReports.{report_data}

-- the places have numbers of 32 bits, as those of the analyser have
abbrev pub HavePlaces : List Alarm → Type 0
HavePlaces [] = Unit {0}
HavePlaces (alarm ∷ alarms) = ((alarm.place.line < 2 ^ 32) × (alarm.place.col < 2 ^ 32)) × HavePlaces alarms

-- the value is that of no report
abbrev pub IsNoReport : Data → Type 0
IsNoReport value = (alarms : List Alarm) → HavePlaces alarms → length alarms < 2 ^ 64 → value ≡ report_data alarms → ⊥
