-- What the program answers: the page of a report, or why there is none.
use Rattle.std.specs.Prelude.{◌≡◌, ℕ, ◌+◌, ◌⊎◌, List, Option}
use Rattle.std.specs.Io.KnownBytes.{append_known}
use Rattle.report_views.specs.declared.causes.Cause.{Cause}
use Rattle.report_views.specs.Causes.{cause_text, IsCause, longest_report, longest_text}
use Rattle.report_pages.specs.Pages.{IsPage, Texts}
use Rattle.program_streams.specs.Streams.{IsRead, TakesFrontOf}

-- By the name of the text's first file, and by what six streams have left before and after a call: the report, the
-- text, the tables, the notes, the lines and the remarks.
module _ (name : List ℕ) (report_left report_left' text_left text_left' tables_left tables_left' : Option (List ℕ))
    (notes_left notes_left' lines_left lines_left' remarks_left remarks_left' : Option (List ℕ)) where
  -- these bytes were read: each to its end, or past the most that it may have
  pub record AreRead (report : List ℕ) (texts : Texts) : Type 0 where
    pub named : texts.name ≡ name
    pub report_read : IsRead report_left report_left' (longest_report + 1) report
    pub text_read : IsRead text_left text_left' (longest_text + 1) texts.text
    pub tables_read : IsRead tables_left tables_left' (longest_report + 1) texts.tables
    pub notes_read : IsRead notes_left notes_left' (longest_report + 1) texts.notes
    pub lines_read : IsRead lines_left lines_left' (longest_report + 1) texts.lines
    pub remarks_read : IsRead remarks_left remarks_left' (longest_report + 1) texts.remarks

  -- a page of what was read
  pub record IsPageRead (page : List ℕ) : Type 0 where
    pub report : List ℕ
    pub texts : Texts
    pub read : AreRead report texts
    pub is : IsPage report texts page

  -- a stream has taken the whole page
  pub record Shows (taken taken' : Option (List ℕ)) : Type 0 where
    pub page : List ℕ
    pub is : IsPageRead page
    pub appended : taken' ≡ append_known taken page

  -- a stream has taken a front of the page
  pub record ShowsFront (taken taken' : Option (List ℕ)) : Type 0 where
    pub page : List ℕ
    pub is : IsPageRead page
    pub front : TakesFrontOf page taken taken'

  -- a stream has taken the line of the cause for which there is no page
  pub record Tells (taken taken' : Option (List ℕ)) : Type 0 where
    pub report : List ℕ
    pub texts : Texts
    pub read : AreRead report texts
    pub cause : Cause
    pub is : IsCause name report texts.text cause
    pub appended : taken' ≡ append_known taken (cause_text cause)

  -- a stream has taken nothing, or a front of the page
  abbrev pub ShowsNoMore : Option (List ℕ) → Option (List ℕ) → Type 0
  ShowsNoMore taken taken' = (taken' ≡ taken) ⊎ ShowsFront taken taken'
