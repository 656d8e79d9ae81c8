-- What the answer to a certificate promises of the runs of the source in it. No definition here, nor any that one here
-- cites, speaks of tables, of equations or of how a report is found: whoever believes only this page need not know what
-- a certificate is.
--
-- Where the answer is `alarms 0` and `certified`, no error occurs in any run of the source.
use Rattle.std.specs.Prelude.{◌≡◌, ◌⊎◌, ℕ, List, [], ◌++◌, codes}
use Rattle.tm_terms.specs.declared.alarms.Alarm.{Alarm}
use Rattle.tm_terms.specs.Texts.{report_text}
use Rattle.mutex_configs.specs.tm_laid.Layouts.{LaidTree}
use Rattle.sound_core.specs.Soundness.{ListsAll}
use Rattle.source_programs.specs.LaidSources.{IsLaidSource}
use Rattle.program_streams.specs.declared.statuses.Status.{Status}
use Rattle.program_streams.specs.declared.statuses.Status.TheVariants.{NoAlarm, Alarms}
use Rattle.certificate_check.specs.Heads.{HasSource}

-- The source in the bytes has a layout, each error of its runs stands in a report, and the text is that of the report
-- and the word `certified`. The status for no alarm comes with the empty report alone.
pub record IsCertified (bytes : List ℕ) (status : Status) (text : List ℕ) : Type 0 where
  pub source : List ℕ
  pub told : List ℕ
  pub has : HasSource bytes source told
  pub laid : LaidTree
  pub is_laid : IsLaidSource source laid
  pub report : List Alarm
  pub lists : ListsAll laid report
  pub is : text ≡ report_text report ++ codes "certified\n"
  pub none : status ≡ NoAlarm → report ≡ []

-- the text says that something is not covered, and nothing is promised
pub record IsUncovered (status : Status) (text : List ℕ) : Type 0 where
  pub comes : status ≡ Alarms
  pub rest : List ℕ
  pub is : text ≡ codes "uncovered " ++ rest

-- what the answer is, where its status is that of a report
abbrev pub IsSoundCheck : List ℕ → Status → List ℕ → Type 0
IsSoundCheck bytes status text = IsCertified bytes status text ⊎ IsUncovered status text
