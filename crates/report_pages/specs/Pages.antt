-- The page of a report.
use Rattle.std.specs.Prelude.{◌≡◌, ℕ, List, [], ◌∷◌, ◌++◌, Some, decimal, length, map}
use Rattle.tm_terms.specs.declared.alarms.Alarm.{Alarm}
use Rattle.source_marks.specs.Marks.{Origin, lines_of}
use Rattle.source_marks.specs.Names.{decoded}
use Rattle.page_pieces.specs.Composed.{composed}
use Rattle.page_pieces.specs.Pieces.{Piece, fixed, said, page_text}
use Rattle.page_pieces.specs.declared.markup.Markup.TheVariants.{Head, Title, Count, Navigation, Alarms, Sources}
use Rattle.page_pieces.specs.declared.markup.Markup.TheVariants.{SummaryEnd, End}
use Rattle.report_views.specs.Causes.{AreOrigins, IsReportOf}
use Rattle.report_views.specs.Spots.{Spot, finding_of, spots_of}
use Rattle.report_views.specs.declared.spots.Finding.{Finding}
use Rattle.report_pages.specs.Rows.{alarm_rows}
use Rattle.report_pages.specs.Sources.{line_rows}

-- the texts beside a report: the name of the file from which the first line of the text comes, as line marks spell it,
-- the text, the tables before the list of alarms, a line of notes for each alarm, and for each line of the text one that
-- shows it and one of remarks
pub record Texts : Type 0 where
  pub name : List ℕ
  pub text : List ℕ
  pub tables : List ℕ
  pub notes : List ℕ
  pub lines : List ℕ
  pub remarks : List ℕ

-- the title, the name of the file and how many alarms there are
abbrev pub top_pieces : List ℕ → ℕ → List Piece
top_pieces name count =
    fixed Head ∷ said name ∷ fixed Title ∷ said name ∷ fixed Count ∷ said (decimal count) ∷ fixed Navigation ∷ []

-- the tables, and then the list of alarms
abbrev pub list_pieces : Texts → List Finding → List Spot → List Piece
list_pieces texts findings spots =
    composed texts.tables ++ (fixed Alarms ∷ alarm_rows findings spots (lines_of texts.notes))

-- the lines of the text
abbrev pub source_pieces : Texts → List Origin → List Piece
source_pieces texts origins =
    fixed Sources ∷ said (decoded texts.name) ∷ fixed SummaryEnd
    ∷ (line_rows 1 origins (lines_of texts.lines) (lines_of texts.remarks) ++ fixed End ∷ [])

-- the page of alarms in their files, where the lines of their text have these origins
abbrev pub page_pieces : Texts → List Origin → List Finding → List Spot → List Piece
page_pieces texts origins findings spots =
    top_pieces (decoded texts.name) (length findings)
    ++ (list_pieces texts findings spots ++ source_pieces texts origins)

-- the page of findings, where the lines of their text have these origins
pub record IsShown (texts : Texts) (origins : List Origin) (findings : List Finding) (page : List ℕ) : Type 0 where
  pub spots : List Spot
  pub placed : spots_of origins findings ≡ Some spots
  pub written : page ≡ page_text (page_pieces texts origins findings spots)

-- the page of a report, as bytes: that of its alarms, at the places that the line marks of the text give
pub record IsPage (report : List ℕ) (texts : Texts) (page : List ℕ) : Type 0 where
  pub alarms : List Alarm
  pub origins : List Origin
  pub reads : IsReportOf report alarms
  pub marks : AreOrigins texts.name texts.text origins
  pub shown : IsShown texts origins (map finding_of alarms) page
