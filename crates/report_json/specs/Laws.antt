-- The laws of the report as JSON.
use Rattle.std.specs.Prelude.{◌≡◌, ◌<◌, ◌^◌, List, [], ◌∷◌, length, Some}
use Rattle.serde_json.specs.Read.{read}
use Rattle.tm_terms.specs.declared.alarms.Alarm.{Alarm}
use Rattle.report_json.specs.JsonReports.{json_text, report_data, report_object}

-- the numbers of an alarm's place have 64 bits, as those of a source have
abbrev pub IsSmall : Alarm → Type 0
IsSmall alarm = (alarm.place.line < 2 ^ 64) × (alarm.place.col < 2 ^ 64)

-- those of all alarms do
abbrev pub AreSmall : List Alarm → Type 0
AreSmall [] = Unit {0}
AreSmall (alarm ∷ alarms) = IsSmall alarm × AreSmall alarms

-- a reader of JSON takes the line of a report for the value of its alarms
abbrev pub ReadsBack : Type 0
ReadsBack = (alarms : List Alarm) → AreSmall alarms → length alarms < 2 ^ 64
    → read (report_object alarms) ≡ Some (report_data alarms)

-- a value is that of one report
abbrev pub OneReport : Type 0
OneReport = (alarms others : List Alarm) → report_data alarms ≡ report_data others → alarms ≡ others

-- a text is that of one report
abbrev pub OneText : Type 0
OneText =
    (alarms others : List Alarm) → AreSmall alarms → length alarms < 2 ^ 64 → AreSmall others → length others < 2 ^ 64
    → json_text alarms ≡ json_text others → alarms ≡ others
