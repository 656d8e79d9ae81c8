-- What the code tells of a least solution as several texts, before it is known of which source it is.
use Rattle.std.specs.Prelude.{◌≡◌, ℕ, Bool, true, false, List, ◌++◌, codes}
use Rattle.tm_terms.specs.declared.alarms.Alarm.{Alarm}
use Rattle.worker_solutions.specs.program_equations.Programs.{ProgramBodies}
use Rattle.worker_solutions.specs.program_equations.Solutions.{tables_of}
use Rattle.worker_solutions.specs.program_solutions.post_recheck.Pairs.{Pair}
use Rattle.program_reports.specs.Reports.{IsReport}
use Rattle.report_json.specs.JsonReports.{json_text}
use Rattle.program_streams.specs.declared.statuses.Status.{Status}
use Rattle.source_findings.specs.Tellings.{TellsWaitsOf, TellsRangesOf}
use Rattle.note_lines.specs.declared.names.Names.{Names}
use Rattle.source_assumptions.specs.declared.replies.Opened.{Opened}
use Rattle.source_assumptions.specs.reading.Told.{TellsAssumptionsOf}
use Rattle.source_notes.specs.declared.answers.Note.{Note}
use Rattle.source_notes.specs.declared.answers.Note.TheVariants.{Report, Rings, Races, Alarms, Causes, Whole}
use Rattle.source_notes.specs.declared.answers.Note.TheVariants.{Assumptions, Parts}
use Rattle.program_notes.specs.declared.declarations.Declared.{Declared}
use Rattle.source_notes.specs.Notes.{report_status}
use Rattle.source_notes.specs.PartTexts.{Part, shown}
use Rattle.source_notes.specs.reading.Told.{TellsRingsOf, TellsRacesOf, TellsAlarmsOf, TellsCausesOf, TellsNotesOf}

pub record TellsReportOf (p : ProgramBodies) (pair : Pair) (status : Status) (text : List ℕ) : Type 0 where
  pub report : List Alarm
  pub are : IsReport p (tables_of pair.tables) report
  pub comes : status ≡ report_status report
  pub is : text ≡ json_text report

-- behind the bytes before stands a part of this name
pub record Adds (Told : Status → List ℕ → Type 0) (name before after : List ℕ) : Type 0 where
  pub part : Part Told
  pub is : after ≡ before ++ shown name part

-- and this is its status
pub record AddsFirst (Told : Status → List ℕ → Type 0) (name before after : List ℕ) (status : Status) : Type 0 where
  pub part : Part Told
  pub comes : status ≡ part.status
  pub is : after ≡ before ++ shown name part

pub record TellsPartsOf (p : ProgramBodies) (bytes : List ℕ) (names : Names) (declared : Declared) (opened : Opened)
    (pair : Pair) (status : Status) (text : List ℕ) : Type 0 where
  pub report : Part (TellsReportOf p pair)
  pub waits : Part (TellsWaitsOf p pair)
  pub ranges : Part (TellsRangesOf p bytes pair)
  pub rings : Part (TellsRingsOf p bytes names.tasks.items names.mutexes.items pair)
  pub races : Part (TellsRacesOf p bytes names.objects.items names.tasks.items names.mutexes.items pair)
  pub alarms : Part (TellsAlarmsOf p bytes names pair)
  pub causes : Part (TellsCausesOf p bytes names pair)
  pub notes : Part (TellsNotesOf p bytes declared pair)
  pub assumptions : Part (TellsAssumptionsOf p opened.others.items opened.origins.items pair)
  pub comes : status ≡ report.status
  pub is : text ≡ (((((((shown (codes "report") report ++ shown (codes "waits") waits)
      ++ shown (codes "ranges") ranges) ++ shown (codes "rings") rings)
      ++ shown (codes "races") races) ++ shown (codes "alarms") alarms) ++ shown (codes "causes") causes)
      ++ shown (codes "notes") notes) ++ shown (codes "assumptions") assumptions

-- assumptions are told
abbrev pub is_assuming : Note → Bool
is_assuming Assumptions = true
is_assuming Parts = true
is_assuming note = false

abbrev pub TellsOf : Note → ProgramBodies → List ℕ → Names → Declared → Opened → Pair → Status → List ℕ → Type 0
TellsOf Report p bytes names declared opened = TellsReportOf p
TellsOf Rings p bytes names declared opened = TellsRingsOf p bytes names.tasks.items names.mutexes.items
TellsOf Races p bytes names declared opened =
    TellsRacesOf p bytes names.objects.items names.tasks.items names.mutexes.items
TellsOf Alarms p bytes names declared opened = TellsAlarmsOf p bytes names
TellsOf Causes p bytes names declared opened = TellsCausesOf p bytes names
TellsOf Whole p bytes names declared opened = TellsNotesOf p bytes declared
TellsOf Assumptions p bytes names declared opened = TellsAssumptionsOf p opened.others.items opened.origins.items
TellsOf Parts p bytes names declared opened = TellsPartsOf p bytes names declared opened
