-- What the program answers: which texts these words and bytes may give, with which status.
use Rattle.std.specs.Prelude.{◌≡◌, ℕ, ◌<◌, ◌≤◌, Bool, true, false, List, [], ◌∷◌, ◌++◌, length, Option, Some, None}
use Rattle.std.specs.Prelude.{nat_lt, ◌||◌}
use Rattle.source_findings.specs.Findings.{HasFinding}
use Rattle.source_findings.specs.Certificates.{HasCertificate}
use Rattle.source_findings.specs.sound_core.Soundness.{ListsAll}
use Rattle.source_findings.specs.certificate_check.VerdictTexts.{HasChecked}
use Rattle.source_findings.specs.certificate_check.Heads.{HasSource}
use Rattle.source_findings.specs.certificate_check.Certificates.{IsCertificate}
use Rattle.source_findings.specs.certificate_check.Verdicts.{IsNoCertificate}
use Rattle.source_findings.specs.certificate_check.certificate_texts.Limits.{certificate_limit}
use Rattle.source_findings.specs.certificate_check.certificate_texts.Certificates.{certificate_text}
use Rattle.source_findings.specs.declared.findings.Finding.TheVariants as Findings
use Rattle.cmd_words.specs.declared.commands.AnalyseWords.{AnalyseWords}
use Rattle.cmd_words.specs.declared.commands.Command.{Command}
use Rattle.cmd_words.specs.declared.commands.Command.TheVariants.{Analyse, Replay, Generate, Demo}
use Rattle.cmd_words.specs.declared.commands.Command.TheVariants.{Waits, Ranges, Certify, Check}
use Rattle.cmd_words.specs.Words.{command_of}
use Rattle.report_json.specs.JsonReports.{json_text}
use Rattle.store_core.specs.Histories.{Past}
use Rattle.history_lines.specs.HistoryTexts.{history_text}
use Rattle.big_source.specs.GeneratedSources.{source_text, summary_text}
use Rattle.concrete_steps.specs.declared.worlds.Choice.{Choice}
use Rattle.replay_lines.specs.Choices.{asked_of}
use Rattle.tm_terms.specs.declared.alarms.Alarm.{Alarm}
use Rattle.tm_terms.specs.declared.refusals.Refusal.{Refusal}
use Rattle.tm_terms.specs.Texts.{report_text, refusal_text, usage_text}
use Rattle.worker_solutions.specs.tm_laid.Layouts.{LaidTree}
use Rattle.worker_solutions.specs.program_equations.Programs.{ProgramBodies}
use Rattle.interfere_set.specs.Stores.{Interferences}
use Rattle.worker_solutions.specs.QuietHistories.{IsQuietHistory}
use Rattle.source_replays.specs.source_programs.LaidSources.{longest_source}
use Rattle.source_replays.specs.source_programs.Sources.{IsAccepted, IsRefused}
use Rattle.worker_solutions.specs.program_solutions.LeastReports.{IsLeastPair, IsLeastReport}
use Rattle.worker_solutions.specs.program_solutions.post_recheck.Pairs.{Pair}
use Rattle.source_replays.specs.declared.replays.Outcome.{Outcome}
use Rattle.source_replays.specs.declared.replays.Outcome.TheVariants as Outcomes
use Rattle.source_replays.specs.Replays.{IsReplayable, IsRefusedReplay, HasReplay}
use Rattle.program_streams.specs.declared.statuses.Status.{Status}
use Rattle.program_streams.specs.declared.statuses.Status.TheVariants.{NoAlarm, Alarms, Refused, Usage, ReadFault}
use Rattle.program_streams.specs.declared.statuses.Status.TheVariants.{WriteFault, NoMemory}

-- ## Reports

-- with these numbers given as thresholds, the report of these bytes: that of the least solution of the program of which
-- they are a source, in which each error that occurs is listed
pub record Reports (given bytes : List ℕ) (report : List Alarm) : Type 0 where
  pub program : ProgramBodies
  pub accepted : IsAccepted given bytes program
  pub least : IsLeastReport program report
  pub lists : (let a = accepted in ListsAll a.laid report)

-- the report has an alarm
abbrev pub HasAlarm : List Alarm → Type 0
HasAlarm [] = ⊥
HasAlarm (a ∷ report) = Unit {0}

-- ## Histories

-- the lines of a history of so many workers on a program that has come to its end
pub record IsHistoryText (p : ProgramBodies) (workers : ℕ) (lines : List ℕ) : Type 0 where
  pub past : Past Interferences
  pub quiet : IsQuietHistory p workers past
  pub are : lines ≡ history_text past

-- the lines of a history, where one is asked for
abbrev pub HistoryFor : Bool → ProgramBodies → ℕ → List ℕ → Type 0
HistoryFor true p workers lines = IsHistoryText p workers lines
HistoryFor false p workers lines = lines ≡ []

-- ## Answers

-- a report as JSON, or as plain text
abbrev pub report_lines : Bool → List Alarm → List ℕ
report_lines true report = json_text report
report_lines false report = report_text report

-- what `analyse` writes for a report: the lines of a history where they are asked for, and behind them the report's
pub record WritesReport (w : AnalyseWords) (bytes : List ℕ) (report : List Alarm) (text : List ℕ) : Type 0 where
  pub reports : Reports w.thresholds bytes report
  pub history : List ℕ
  pub asked : (let r = reports in HistoryFor w.history r.program w.workers history)
  pub is : text ≡ history ++ report_lines w.json report

-- The status and the text that the command `analyse` answers these bytes with.
abbrev pub HasAnswer : AnalyseWords → List ℕ → Status → List ℕ → Type 0
HasAnswer w bytes NoAlarm text = WritesReport w bytes [] text
HasAnswer w bytes Alarms text = (report : List Alarm) × HasAlarm report × WritesReport w bytes report text
HasAnswer w bytes Refused text = (refusal : Refusal) × IsRefused bytes refusal × (text ≡ refusal_text refusal)
HasAnswer w bytes Usage text = ⊥
HasAnswer w bytes ReadFault text = ⊥
HasAnswer w bytes WriteFault text = ⊥
HasAnswer w bytes NoMemory text = ⊥

-- The status and the two lines that the command `demo` answers with: those of the generated source and its report.
abbrev pub HasSummary : List ℕ → Status → List ℕ → Type 0
HasSummary source NoAlarm text = Reports [] source [] × (text ≡ summary_text source [])
HasSummary source Alarms text =
    (report : List Alarm) × HasAlarm report × Reports [] source report × (text ≡ summary_text source report)
HasSummary source Refused text = (refusal : Refusal) × IsRefused source refusal × (text ≡ refusal_text refusal)
HasSummary source Usage text = ⊥
HasSummary source ReadFault text = ⊥
HasSummary source WriteFault text = ⊥
HasSummary source NoMemory text = ⊥

-- the status that goes with what became of a replay
abbrev pub replay_status : Outcome → Status
replay_status Outcomes.Clean = NoAlarm
replay_status Outcomes.Found = Alarms
replay_status Outcomes.Refused = Refused

-- The status and the text that the command `replay` answers these bytes with.
pub record IsReplayed (bytes : List ℕ) (status : Status) (text : List ℕ) : Type 0 where
  pub outcome : Outcome
  pub comes : status ≡ replay_status outcome
  pub has : HasReplay bytes outcome text

-- the bytes are a source that is accepted, and choices behind it
pub record AsksForRun (bytes : List ℕ) : Type 0 where
  pub laid : LaidTree
  pub replayable : IsReplayable bytes laid
  pub choices : List Choice
  pub asked : asked_of bytes ≡ Some choices

-- the status and the text that the command `generate` answers with
abbrev pub IsGenerated : ℕ → Status → List ℕ → Type 0
IsGenerated count status text = (status ≡ NoAlarm) × (text ≡ source_text count)

-- the status and the text that words are answered with which are no command
abbrev pub SaysUsage : Status → List ℕ → Type 0
SaysUsage status text = (status ≡ Usage) × (text ≡ usage_text)

-- ## Commands

-- the text that may come with a status, for a command and these bytes
abbrev pub CommandGives : Option Command → List ℕ → Status → List ℕ → Type 0
CommandGives None bytes status text = SaysUsage status text
CommandGives (Some (Analyse w)) bytes status text = HasAnswer w bytes status text
CommandGives (Some Replay) bytes status text = IsReplayed bytes status text
CommandGives (Some (Generate count)) bytes status text = IsGenerated count status text
CommandGives (Some (Demo w)) bytes status text = HasSummary (source_text w.count) status text
CommandGives (Some Waits) bytes status text = HasFinding Findings.Waits bytes status text
CommandGives (Some Ranges) bytes status text = HasFinding Findings.Ranges bytes status text
CommandGives (Some Certify) bytes status text = HasCertificate bytes status text
CommandGives (Some Check) bytes status text = HasChecked bytes status text

-- the text that may come with a status, for these words and bytes
abbrev pub MayGive : List (List ℕ) → List ℕ → Status → List ℕ → Type 0
MayGive words = CommandGives (command_of words)

-- the words are a command
abbrev pub IsCommand : Option Command → Type 0
IsCommand None = ⊥
IsCommand (Some (Analyse w)) = Unit {0}
IsCommand (Some Replay) = Unit {0}
IsCommand (Some (Generate count)) = Unit {0}
IsCommand (Some (Demo w)) = Unit {0}
IsCommand (Some Waits) = Unit {0}
IsCommand (Some Ranges) = Unit {0}
IsCommand (Some Certify) = Unit {0}
IsCommand (Some Check) = Unit {0}

-- whether the command asks for workers: for more than one, or for the history of one
abbrev pub asks_workers : Option Command → Bool
asks_workers None = false
asks_workers (Some (Analyse w)) = nat_lt 1 w.workers || w.history
asks_workers (Some Replay) = false
asks_workers (Some (Generate count)) = false
asks_workers (Some (Demo w)) = nat_lt 1 w.workers
asks_workers (Some Waits) = false
asks_workers (Some Ranges) = false
asks_workers (Some Certify) = false
asks_workers (Some Check) = false

-- the command reads the source
abbrev pub Reads : Option Command → Type 0
Reads None = ⊥
Reads (Some (Analyse w)) = Unit {0}
Reads (Some Replay) = Unit {0}
Reads (Some (Generate count)) = ⊥
Reads (Some (Demo w)) = ⊥
Reads (Some Waits) = Unit {0}
Reads (Some Ranges) = Unit {0}
Reads (Some Certify) = Unit {0}
Reads (Some Check) = Unit {0}

-- the bytes that a command answers for: all that the source has left, where it reads, or the generated text
abbrev pub AnswersFor : Option Command → Option (List ℕ) → List ℕ → Type 0
AnswersFor None left bytes = ⊥
AnswersFor (Some (Analyse w)) left bytes = left ≡ Some bytes
AnswersFor (Some Replay) left bytes = left ≡ Some bytes
AnswersFor (Some (Generate count)) left bytes = ⊥
AnswersFor (Some (Demo w)) left bytes = bytes ≡ source_text w.count
AnswersFor (Some Waits) left bytes = left ≡ Some bytes
AnswersFor (Some Ranges) left bytes = left ≡ Some bytes
AnswersFor (Some Certify) left bytes = left ≡ Some bytes
AnswersFor (Some Check) left bytes = left ≡ Some bytes

-- ## What is accepted, and what is refused

-- the bytes are a source of the program, and the text of each least solution of it is short enough for a certificate
pub record HasShortText (bytes : List ℕ) : Type 0 where
  pub program : ProgramBodies
  pub accepted : IsAccepted [] bytes program
  pub short : (pair : Pair) → IsLeastPair program pair → length (certificate_text bytes pair) ≤ certificate_limit

-- it is too long
pub record HasLongText (bytes : List ℕ) : Type 0 where
  pub program : ProgramBodies
  pub accepted : IsAccepted [] bytes program
  pub long : (pair : Pair) → IsLeastPair program pair → certificate_limit < length (certificate_text bytes pair)

-- the bytes are a certificate
pub record AsksForCheck (bytes : List ℕ) : Type 0 where
  pub source : List ℕ
  pub program : ProgramBodies
  pub pair : Pair
  pub certificate : IsCertificate bytes source program pair

-- why bytes are refused as an input of `certify`
pub data IsNotCertified (bytes : List ℕ) : Type 0 where
  is_refused : (refusal : Refusal) → IsRefused bytes refusal → IsNotCertified bytes
  has_long_text : HasLongText bytes → IsNotCertified bytes

-- why bytes are refused as an input of `check`
pub data IsNotChecked (bytes : List ℕ) : Type 0 where
  is_too_long : certificate_limit < length bytes → IsNotChecked bytes
  is_none : length bytes ≤ certificate_limit → IsNoCertificate bytes → IsNotChecked bytes
  is_of_refused : (source told : List ℕ) (refusal : Refusal) → length bytes ≤ certificate_limit
      → HasSource bytes source told → IsRefused source refusal → IsNotChecked bytes

-- a command accepts these bytes
abbrev pub Accepts : Option Command → List ℕ → Type 0
Accepts None bytes = ⊥
Accepts (Some (Analyse w)) bytes = (p : ProgramBodies) × IsAccepted w.thresholds bytes p
Accepts (Some Replay) bytes = AsksForRun bytes
Accepts (Some (Generate count)) bytes = ⊥
Accepts (Some (Demo w)) bytes = (p : ProgramBodies) × IsAccepted [] bytes p
Accepts (Some Waits) bytes = (p : ProgramBodies) × IsAccepted [] bytes p
Accepts (Some Ranges) bytes = (p : ProgramBodies) × IsAccepted [] bytes p
Accepts (Some Certify) bytes = HasShortText bytes
Accepts (Some Check) bytes = AsksForCheck bytes

-- a command refuses these bytes
abbrev pub Refuses : Option Command → List ℕ → Type 0
Refuses None bytes = ⊥
Refuses (Some (Analyse w)) bytes = (refusal : Refusal) × IsRefused bytes refusal
Refuses (Some Replay) bytes = (refusal : Refusal) × IsRefusedReplay bytes refusal
Refuses (Some (Generate count)) bytes = ⊥
Refuses (Some (Demo w)) bytes = (refusal : Refusal) × IsRefused bytes refusal
Refuses (Some Waits) bytes = (refusal : Refusal) × IsRefused bytes refusal
Refuses (Some Ranges) bytes = (refusal : Refusal) × IsRefused bytes refusal
Refuses (Some Certify) bytes = IsNotCertified bytes
Refuses (Some Check) bytes = IsNotChecked bytes

-- ## What is read

-- how many bytes a command takes at most: it reads one more to see that they are too many
abbrev pub longest_of : Option Command → ℕ
longest_of None = longest_source
longest_of (Some (Analyse w)) = longest_source
longest_of (Some Replay) = longest_source
longest_of (Some (Generate count)) = longest_source
longest_of (Some (Demo w)) = longest_source
longest_of (Some Waits) = longest_source
longest_of (Some Ranges) = longest_source
longest_of (Some Certify) = longest_source
longest_of (Some Check) = certificate_limit
