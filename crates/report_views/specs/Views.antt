-- The view of a report over a text.
use Rattle.std.specs.Prelude.{◌≡◌, ℕ, Bool, List, [], ◌∷◌, map, Some, true, false}
use Rattle.tm_terms.specs.declared.alarms.Alarm.{Alarm}
use Rattle.source_marks.specs.Marks.{Origin}
use Rattle.report_views.specs.Causes.{AreOrigins, IsReportOf}
use Rattle.report_views.specs.Lines.{lines_text}
use Rattle.report_views.specs.Summaries.{summary_text}
use Rattle.report_views.specs.Spots.{Spot, finding_of, spots_of}
use Rattle.report_views.specs.declared.spots.Finding.{Finding}
use Rattle.report_views.specs.declared.views.Form.{Form}
use Rattle.report_views.specs.declared.views.Form.TheVariants.{Lines, Summary}

-- alarms in their files, in a form
abbrev pub form_text : Form → List Spot → List ℕ
form_text Lines spots = lines_text spots
form_text Summary spots = summary_text spots

-- whether there is an alarm
abbrev pub has_alarm : List Spot → Bool
has_alarm [] = false
has_alarm (spot ∷ spots) = true

-- the view of findings, where the lines of their text have these origins: each once, at its place in its file
pub record IsShown (form : Form) (origins : List Origin) (findings : List Finding) (alarm : Bool) (view : List ℕ)
    : Type 0 where
  pub spots : List Spot
  pub placed : spots_of origins findings ≡ Some spots
  pub any : alarm ≡ has_alarm spots
  pub written : view ≡ form_text form spots

-- the view of a report, as bytes, over a text, whose first file has this name: that of its alarms, at the places that
-- the line marks of the text give
pub record IsView (form : Form) (name report text : List ℕ) (alarm : Bool) (view : List ℕ) : Type 0 where
  pub alarms : List Alarm
  pub origins : List Origin
  pub reads : IsReportOf report alarms
  pub marks : AreOrigins name text origins
  pub shown : IsShown form origins (map finding_of alarms) alarm view
