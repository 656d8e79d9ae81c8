-- What `check` answers: the text and the status that go with a verdict.
use Rattle.std.specs.Prelude.{◌≡◌, ℕ, List, [], ◌∷◌, ◌++◌, codes, decimal}
use Rattle.tm_terms.specs.declared.alarms.Alarm.{Alarm}
use Rattle.tm_terms.specs.Texts.{line_of, report_text, refusal_text}
use Rattle.program_streams.specs.declared.statuses.Status.{Status}
use Rattle.program_streams.specs.declared.statuses.Status.TheVariants as Statuses
use Rattle.certificate_check.specs.Verdicts.{IsVerdict}
use Rattle.certificate_check.specs.declared.verdicts.Verdict.{Verdict}
use Rattle.certificate_check.specs.declared.verdicts.Verdict.TheVariants.{TooLong, NoCertificate, Refused, Uncovered}
use Rattle.certificate_check.specs.declared.verdicts.Verdict.TheVariants.{UncoveredStore, Certified}

-- ## Texts

-- refused Limit certificate 67108864
abbrev pub too_long_line : List ℕ
too_long_line = codes "refused Limit certificate 67108864\n"

-- uncovered BODY EDGE
abbrev pub uncovered_line : ℕ → ℕ → List ℕ
uncovered_line body edge = line_of (codes "uncovered " ++ (decimal body ++ (codes " " ++ decimal edge)))

-- the report, and that it is certified
abbrev pub certified_text : List Alarm → List ℕ
certified_text report = report_text report ++ codes "certified\n"

abbrev pub verdict_text : Verdict → List ℕ
verdict_text TooLong = too_long_line
verdict_text NoCertificate = codes "refused certificate\n"
verdict_text (Refused refusal) = refusal_text refusal
verdict_text (Uncovered body edge) = uncovered_line body edge
verdict_text UncoveredStore = codes "uncovered store\n"
verdict_text (Certified report) = certified_text report.alarms.items

-- ## Statuses

-- by whether the report has an alarm
abbrev pub certified_status : List Alarm → Status
certified_status [] = Statuses.NoAlarm
certified_status (alarm ∷ report) = Statuses.Alarms

abbrev pub verdict_status : Verdict → Status
verdict_status TooLong = Statuses.Refused
verdict_status NoCertificate = Statuses.Refused
verdict_status (Refused refusal) = Statuses.Refused
verdict_status (Uncovered body edge) = Statuses.Alarms
verdict_status UncoveredStore = Statuses.Alarms
verdict_status (Certified report) = certified_status report.alarms.items

-- ## Answers

-- the status and the text that `check` answers these bytes with
pub record HasChecked (bytes : List ℕ) (status : Status) (text : List ℕ) : Type 0 where
  pub verdict : Verdict
  pub is : IsVerdict bytes verdict
  pub comes : status ≡ verdict_status verdict
  pub says : text ≡ verdict_text verdict
