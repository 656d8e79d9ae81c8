-- What the answer to `analyse` promises of the runs of its source. No definition here, nor any that one here cites, speaks
-- of the analysis: whoever believes only this page need not know how a report is found.
--
-- In `int x; __task(1) void t(void) { x = 8 / x; }` the cell of `x` holds 0 when `t` divides: DIV occurs at the sign `/`,
-- so the text that `analyse` answers with has the line of that alarm.
use Rattle.std.specs.Prelude.{◌≡◌, ◌⊎◌, ℕ, List, [], ◌∷◌, ◌++◌, String, string_bytes, codes}
use Rattle.std.specs.declared.alloc.Global.{Global as Heap}
use Rattle.report_json.specs.JsonReports.{json_text}
use Rattle.tm_terms.specs.declared.alarms.Alarm.{Alarm}
use Rattle.tm_terms.specs.Texts.{report_text}
use Rattle.worker_solutions.specs.tm_laid.Layouts.{LaidTree}
use Rattle.source_replays.specs.source_programs.LaidSources.{IsLaidSource}
use Rattle.source_findings.specs.sound_core.Soundness.{ListsAll}
use Rattle.program_streams.specs.declared.statuses.Status.{Status}
use Rattle.program_streams.specs.declared.statuses.Status.TheVariants.{NoAlarm}

-- the first word asks for the analysis of a source
abbrev pub AsksForReport : List (String Heap) → Type 0
AsksForReport [] = ⊥
AsksForReport (word ∷ words) = string_bytes word ≡ codes "analyse"

-- The bytes are a source whose file has a layout, each error of its runs stands in a report, and the text ends in the
-- report's lines or its JSON, behind those of a history. The status for no alarm comes with the empty report alone.
pub record IsSound (bytes : List ℕ) (status : Status) (text : List ℕ) : Type 0 where
  pub laid : LaidTree
  pub source : IsLaidSource bytes laid
  pub report : List Alarm
  pub lists : ListsAll laid report
  pub history : List ℕ
  pub ends : (text ≡ history ++ report_text report) ⊎ (text ≡ history ++ json_text report)
  pub none : status ≡ NoAlarm → report ≡ []
