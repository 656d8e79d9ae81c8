-- What is found of a source, and the status and the text that go with a report.
use Rattle.std.specs.Prelude.{◌≡◌, ℕ, Bool, true, false, List, [], string_bytes}
use Rattle.store_core.specs.Histories.{Past}
use Rattle.history_lines.specs.HistoryTexts.{history_text}
use Rattle.tm_terms.specs.declared.alarms.Alarm.{Alarm}
use Rattle.interfere_set.specs.Stores.{Interferences}
use Rattle.worker_solutions.specs.program_equations.Programs.{ProgramBodies}
use Rattle.worker_solutions.specs.program_solutions.LeastReports.{IsLeastReport}
use Rattle.source_replays.specs.source_programs.Sources.{IsRefused}
use Rattle.analyser.specs.declared.solvers.Solved.{Solved}
use Rattle.analyser.specs.declared.replies.Found.{Found}
use Rattle.analyser.specs.declared.replies.Found.TheVariants as Finds
use Rattle.program_streams.specs.declared.statuses.Status.{Status}
use Rattle.program_streams.specs.declared.statuses.Status.TheVariants.{NoAlarm, Alarms, Refused, Usage, ReadFault}
use Rattle.program_streams.specs.declared.statuses.Status.TheVariants.{WriteFault, NoMemory}
use Rattle.analyser.specs.Headline.{HasAlarm, HistoryFor, Reports}

-- the lines of a past, where they are asked for
abbrev pub AreLines : Bool → Past Interferences → List ℕ → Type 0
AreLines true past lines = lines ≡ history_text past
AreLines false past lines = lines ≡ []

-- the report of a program, with the lines of a history where they are asked for
abbrev pub IsSolved : ProgramBodies → ℕ → Bool → Solved → Type 0
IsSolved p workers history solved =
    IsLeastReport p solved.report.alarms.items × HistoryFor history p workers (string_bytes solved.history)

-- the report of the bytes, with the lines of a history where they are asked for; or their refusal
abbrev pub IsFound : List ℕ → ℕ → Bool → List ℕ → Found → Type 0
IsFound given workers history bytes (Finds.Reported solved) =
    (r : Reports given bytes solved.report.alarms.items)
    × HistoryFor history r.program workers (string_bytes solved.history)
IsFound given workers history bytes (Finds.Refused refusal) = IsRefused bytes refusal

-- whether the report has an alarm
abbrev pub TellsAlarms : List Alarm → Status → Type 0
TellsAlarms report NoAlarm = report ≡ []
TellsAlarms report Alarms = HasAlarm report
TellsAlarms report Refused = ⊥
TellsAlarms report Usage = ⊥
TellsAlarms report ReadFault = ⊥
TellsAlarms report WriteFault = ⊥
TellsAlarms report NoMemory = ⊥
