-- Findings at their places in the files that they stand in.
use Rattle.std.specs.Prelude.{◌≡◌, ℕ, ◌-◌, ◌==◌, ◌||◌, List, [], ◌∷◌, slice_get, Option, Some, None, option_map}
use Rattle.std.specs.Prelude.{option_and_then}
use Rattle.std.specs.Prelude.{if◌then◌else◌, Contains}
use Rattle.tm_terms.specs.declared.alarms.Alarm.{Alarm}
use Rattle.tm_terms.specs.declared.places.Place.{Place}
use Rattle.report_reading.specs.declared.assumptions.Assumption.{Assumption}
use Rattle.source_marks.specs.Marks.{Origin}
use Rattle.report_views.specs.declared.sentences.Rule.{Rule}
use Rattle.report_views.specs.declared.sentences.Rule.TheVariants.{Alarm as OfAlarm, Assumption as OfAssumption}
use Rattle.report_views.specs.declared.spots.Finding.{Finding}

-- what is found at a place by a rule
abbrev pub found_by : Rule → Place → Finding
found_by rule place = record { place = place; rule = rule }

-- an alarm is found by the rule of its class
abbrev pub finding_of : Alarm → Finding
finding_of alarm = found_by (OfAlarm alarm.class) alarm.place

-- an assumption is found by the rule of its kind
abbrev pub assumed_by : Assumption → Finding
assumed_by a = found_by (OfAssumption a.kind) a.place

-- a finding in its file: the file's name as a mark spells it, the line and the column, and the rule
pub record Spot : Type 0 where
  pub name : List ℕ
  pub line : ℕ
  pub col : ℕ
  pub rule : Rule

-- a finding in the line of a file, whose lines and columns are counted from 1
abbrev pub spot_in : Finding → Origin → Option Spot
spot_in finding origin =
    if finding.place.col == 0 || origin.line == 0 then None
    else Some (record { name = origin.name; line = origin.line; col = finding.place.col; rule = finding.rule })

-- the origin of the line with this number, counted from 1
abbrev pub origin_at : List Origin → ℕ → Option Origin
origin_at origins line = if line == 0 then None else slice_get origins (line - 1)

-- a finding in its file, by the origins of the lines of the text
abbrev pub spot_of : List Origin → Finding → Option Spot
spot_of origins finding = option_and_then (spot_in finding) (origin_at origins finding.place.line)

abbrev pub before : Option Spot → Option (List Spot) → Option (List Spot)
before (Some spot) spots = option_map (λ rest. spot ∷ rest) spots
before None spots = None

-- the findings in their files, each once and in their order; none where one of them stands in no line of a file
abbrev pub spots_of : List Origin → List Finding → Option (List Spot)
spots_of origins [] = Some []
spots_of origins (finding ∷ findings) = before (spot_of origins finding) (spots_of origins findings)

-- a finding of these stands at this place, which is in no line of a file
pub record IsOutside (origins : List Origin) (findings : List Finding) (place : Place) : Type 0 where
  pub finding : Finding
  pub there : Contains findings finding
  pub placed : finding.place ≡ place
  pub none : spot_of origins finding ≡ None
