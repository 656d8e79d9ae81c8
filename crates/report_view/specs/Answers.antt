-- What the program answers: the view of a report over a text, or the log of a report, its waits, its dead places and
-- the assumptions, or why there is none; or the log of a refusal.
use Rattle.std.specs.Prelude.{◌≡◌, ℕ, ◌+◌, ◌⊎◌, Bool, List, Option}
use Rattle.std.specs.Io.KnownBytes.{append_known}
use Rattle.report_views.specs.declared.causes.Cause.{Cause}
use Rattle.report_views.specs.declared.views.Form.{Form}
use Rattle.report_views.specs.Causes.{Answers, cause_text, IsCause, IsLogCause, longest_report, longest_text}
use Rattle.report_views.specs.Views.{IsView}
use Rattle.report_logs.specs.Logs.{IsLog}
use Rattle.report_logs.specs.Refusals.{Refusal, refusal_text}
use Rattle.program_streams.specs.Streams.{IsRead, TakesFrontOf}

-- By what two streams have left before and after a call: the report, and the text whose first file has this name.
module _ (form : Form) (name : List ℕ) (report_left report_left' text_left text_left' : Option (List ℕ)) where
  -- these bytes of both were read: each to its end, or past the most that it may have
  pub record AreRead (report text : List ℕ) : Type 0 where
    pub report_read : IsRead report_left report_left' (longest_report + 1) report
    pub text_read : IsRead text_left text_left' (longest_text + 1) text

  -- a stream has taken the whole view of the report, which has an alarm or none
  pub record Shows (alarm : Bool) (taken taken' : Option (List ℕ)) : Type 0 where
    pub report : List ℕ
    pub text : List ℕ
    pub read : AreRead report text
    pub view : List ℕ
    pub is : IsView form name report text alarm view
    pub appended : taken' ≡ append_known taken view

  -- a stream has taken a front of the view
  pub record ShowsFront (taken taken' : Option (List ℕ)) : Type 0 where
    pub report : List ℕ
    pub text : List ℕ
    pub read : AreRead report text
    pub alarm : Bool
    pub view : List ℕ
    pub is : IsView form name report text alarm view
    pub front : TakesFrontOf view taken taken'

  -- a stream has taken the line of the cause for which there is no view
  pub record Tells (taken taken' : Option (List ℕ)) : Type 0 where
    pub report : List ℕ
    pub text : List ℕ
    pub read : AreRead report text
    pub cause : Cause
    pub is : IsCause name report text cause
    pub appended : taken' ≡ append_known taken (cause_text cause)

  -- a stream has taken nothing, or a front of the view
  abbrev pub ShowsNoMore : Option (List ℕ) → Option (List ℕ) → Type 0
  ShowsNoMore taken taken' = (taken' ≡ taken) ⊎ ShowsFront taken taken'

-- By what seven streams have left before and after a call: the report, the text whose first file has this name, the
-- text of the waits, that of the dead places, that of the assumptions, that of the ways, and the lines of the files
-- from which those of the text come.
module _ (report_left report_left' text_left text_left' waits_left waits_left' dead_left dead_left' : Option (List ℕ))
    (assumptions_left assumptions_left' ways_left ways_left' lines_left lines_left' : Option (List ℕ)) where
  -- these bytes were read: each to its end, or past the most that it may have
  pub record AllAreRead (answers : Answers) (text lines : List ℕ) : Type 0 where
    pub report_read : IsRead report_left report_left' (longest_report + 1) answers.report
    pub text_read : IsRead text_left text_left' (longest_text + 1) text
    pub waits_read : IsRead waits_left waits_left' (longest_report + 1) answers.waits
    pub dead_read : IsRead dead_left dead_left' (longest_report + 1) answers.dead
    pub assumptions_read : IsRead assumptions_left assumptions_left' (longest_report + 1) answers.assumptions
    pub ways_read : IsRead ways_left ways_left' (longest_report + 1) answers.ways
    pub lines_read : IsRead lines_left lines_left' (longest_report + 1) lines

  -- what holds of bytes that were read
  pub record OfRead (Holds : Answers → List ℕ → List ℕ → Type 0) : Type 0 where
    pub answers : Answers
    pub text : List ℕ
    pub lines : List ℕ
    pub read : AllAreRead answers text lines
    pub holds : Holds answers text lines

-- By the folders of documents and from which names of files are seen, the name of the first file, and bytes that were
-- read.
module _ (documents folder name : List ℕ) (answers : Answers) (text lines : List ℕ) where
  -- a stream has taken the whole log
  pub record LogsWhole (taken taken' : Option (List ℕ)) : Type 0 where
    pub log : List ℕ
    pub is : IsLog documents folder name answers text lines log
    pub appended : taken' ≡ append_known taken log

  -- a stream has taken a front of the log
  pub record LogsFront (taken taken' : Option (List ℕ)) : Type 0 where
    pub log : List ℕ
    pub is : IsLog documents folder name answers text lines log
    pub front : TakesFrontOf log taken taken'

  -- a stream has taken the line of the cause for which there is no log
  pub record TellsCause (taken taken' : Option (List ℕ)) : Type 0 where
    pub cause : Cause
    pub is : IsLogCause name answers text cause
    pub appended : taken' ≡ append_known taken (cause_text cause)

-- The same, by what the seven streams have left before and after a call.
module _ (report_left report_left' text_left text_left' waits_left waits_left' dead_left dead_left' : Option (List ℕ))
    (assumptions_left assumptions_left' ways_left ways_left' lines_left lines_left' : Option (List ℕ))
    (documents folder name : List ℕ) (taken taken' : Option (List ℕ)) where
  abbrev OfAllRead : (Answers → List ℕ → List ℕ → Type 0) → Type 0
  OfAllRead = OfRead report_left report_left' text_left text_left' waits_left waits_left' dead_left dead_left'
      assumptions_left assumptions_left' ways_left ways_left' lines_left lines_left'

  -- a stream has taken the whole log of what was read
  abbrev pub Logs : Type 0
  Logs = OfAllRead (λ answers text lines. LogsWhole documents folder name answers text lines taken taken')

  -- a stream has taken the line of the cause for which what was read has no log
  abbrev pub TellsNoLog : Type 0
  TellsNoLog = OfAllRead (λ answers text lines. TellsCause documents folder name answers text lines taken taken')

  -- a stream has taken nothing, or a front of the log
  abbrev pub LogsNoMore : Type 0
  LogsNoMore =
      (taken' ≡ taken)
      ⊎ OfAllRead (λ answers text lines. LogsFront documents folder name answers text lines taken taken')

-- By what two streams have left before and after a call: the text whose first file has this name, and the lines of the
-- files from which its lines come.
module _ (text_left text_left' lines_left lines_left' : Option (List ℕ)) where
  -- these bytes were read: each to its end, or past the most that it may have
  pub record BothAreRead (text lines : List ℕ) : Type 0 where
    pub text_read : IsRead text_left text_left' (longest_text + 1) text
    pub lines_read : IsRead lines_left lines_left' (longest_report + 1) lines

  -- By the folder of documents and the refusal of the text.
  module _ (documents name : List ℕ) (refusal : Refusal) (taken taken' : Option (List ℕ)) where
    -- a stream has taken the whole log of the refusal of what was read
    pub record LogsRefusal : Type 0 where
      pub text : List ℕ
      pub lines : List ℕ
      pub read : BothAreRead text lines
      pub appended : taken' ≡ append_known taken (refusal_text documents name text lines refusal)

    -- a stream has taken a front of it
    pub record LogsRefusalFront : Type 0 where
      pub text : List ℕ
      pub lines : List ℕ
      pub read : BothAreRead text lines
      pub front : TakesFrontOf (refusal_text documents name text lines refusal) taken taken'

    -- a stream has taken nothing, or a front of the log
    abbrev pub LogsRefusalNoMore : Type 0
    LogsRefusalNoMore = (taken' ≡ taken) ⊎ LogsRefusalFront
