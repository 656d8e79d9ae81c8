-- Why a report has no view, and findings have no log.
use Rattle.std.specs.Prelude.{◌≡◌, ℕ, ◌<◌, ◌≤◌, List, ◌++◌, length, Some, None, map, codes, decimal, IsUtf8}
use Rattle.serde_json.specs.Data.{Data}
use Rattle.serde_json.specs.Read.{read}
use Rattle.tm_terms.specs.declared.alarms.Alarm.{Alarm}
use Rattle.tm_terms.specs.declared.places.Place.{Place}
use Rattle.tm_terms.specs.Texts.{line_of, place_text}
use Rattle.report_reading.specs.report_json.JsonReports.{report_data}
use Rattle.report_reading.specs.Reports.{IsNoReport}
use Rattle.report_reading.specs.Assumptions.{IsNoAssumptions, assumptions_text}
use Rattle.report_reading.specs.Listings.{IsNoListing, listing_text}
use Rattle.report_reading.specs.Ways.{IsNoWays, Way, ways_text}
use Rattle.report_reading.specs.declared.assumptions.Assumption.{Assumption}
use Rattle.report_reading.specs.declared.listings.Listing.{Listing}
use Rattle.report_reading.specs.declared.listings.Listing.TheVariants.{Waits, Dead as DeadPlaces}
use Rattle.source_marks.specs.Marks.{IsBrokenAt, lines_of, origins_of, Origin}
use Rattle.report_views.specs.Spots.{IsOutside, assumed_by, finding_of, found_by}
use Rattle.report_views.specs.Shares.{IsOfNone, site_of}
use Rattle.report_views.specs.declared.spots.Finding.{Finding}
use Rattle.report_views.specs.declared.sentences.Rule.TheVariants.{Wait, Dead}
use Rattle.report_views.specs.declared.causes.Cause.{Cause}
use Rattle.report_views.specs.declared.causes.Cause.TheVariants.{LongReport, NotJson, NotReport, LongText, BrokenMark}
use Rattle.report_views.specs.declared.causes.Cause.TheVariants.{Outside, LongListing, NotListing, LongAssumptions, NotAssumptions}
use Rattle.report_views.specs.declared.causes.Cause.TheVariants.{LongWays, NotWays, StrangeWay}

-- ## The lines that tell a cause

abbrev pub broken_text : ℕ → List ℕ
broken_text number = codes "refused: a line mark that cannot be read is line " ++ line_of (decimal number)

abbrev pub outside_text : Place → List ℕ
outside_text place = line_of (codes "refused: in no line of a file stands the place " ++ place_text place)

abbrev pub strange_way_text : Place → List ℕ
strange_way_text place =
    line_of (codes "refused: of no alarm in its turn is what is told at the place " ++ place_text place)

abbrev pub long_text : Listing → List ℕ
long_text Waits = line_of (codes "refused: the text of the waits is too long")
long_text DeadPlaces = line_of (codes "refused: the text of the dead places is too long")

abbrev pub strange_text : Listing → List ℕ
strange_text Waits = line_of (codes "refused: the text of the waits lists no places")
strange_text DeadPlaces = line_of (codes "refused: the text of the dead places lists no places")

abbrev pub cause_text : Cause → List ℕ
cause_text LongReport = line_of (codes "refused: the report is too long")
cause_text NotJson = line_of (codes "refused: the report is no JSON")
cause_text NotReport = line_of (codes "refused: the report is JSON, but no report of alarms")
cause_text LongText = line_of (codes "refused: the text is too long")
cause_text (BrokenMark number) = broken_text number
cause_text (Outside place) = outside_text place
cause_text (LongListing listing) = long_text listing
cause_text (NotListing listing) = strange_text listing
cause_text LongAssumptions = line_of (codes "refused: the text of the assumptions is too long")
cause_text NotAssumptions = line_of (codes "refused: the text of the assumptions lists no assumptions")
cause_text LongWays = line_of (codes "refused: the text of the ways is too long")
cause_text NotWays = line_of (codes "refused: the text of the ways tells no ways")
cause_text (StrangeWay place) = strange_way_text place

-- ## What is read

-- the most bytes of a report or a text that lists places, and of a source text
abbrev pub longest_report : ℕ
longest_report = 67108864

abbrev pub longest_text : ℕ
longest_text = 16777216

-- these bytes are the report of these alarms
abbrev pub IsReportOf : List ℕ → List Alarm → Type 0
IsReportOf report alarms = (length report ≤ longest_report) × IsUtf8 report × (read report ≡ Some (report_data alarms))

-- these bytes list these places
abbrev pub IsListingOf : Listing → List ℕ → List Place → Type 0
IsListingOf listing text places = (length text ≤ longest_report) × (text ≡ listing_text listing places)

-- these bytes list these assumptions
abbrev pub AreAssumptionsOf : List ℕ → List Assumption → Type 0
AreAssumptionsOf text assumptions = (length text ≤ longest_report) × (text ≡ assumptions_text assumptions)

-- these bytes tell these ways
abbrev pub AreWaysOf : List ℕ → List Way → Type 0
AreWaysOf text ways = (length text ≤ longest_report) × (text ≡ ways_text ways)

-- the lines of a text, whose first file has this name, have these origins
abbrev pub AreOrigins : List ℕ → List ℕ → List Origin → Type 0
AreOrigins name text origins = (length text ≤ longest_text) × (origins_of name text ≡ Some origins)

-- ## The causes

-- this is the cause for which a report, as bytes, has no view over a text, whose first file has this name
abbrev pub IsCause : List ℕ → List ℕ → List ℕ → Cause → Type 0
IsCause name report text LongReport = longest_report < length report
IsCause name report text NotJson = IsUtf8 report → read report ≡ None
IsCause name report text NotReport = (value : Data) × (read report ≡ Some value) × IsNoReport value
IsCause name report text LongText = longest_text < length text
IsCause name report text (BrokenMark number) = (origins_of name text ≡ None) × IsBrokenAt (lines_of text) number
IsCause name report text (Outside place) =
    (alarms : List Alarm) × (origins : List Origin) × IsReportOf report alarms × AreOrigins name text origins
    × IsOutside origins (map finding_of alarms) place
IsCause name report text (LongListing listing) = ⊥
IsCause name report text (NotListing listing) = ⊥
IsCause name report text LongAssumptions = ⊥
IsCause name report text NotAssumptions = ⊥
IsCause name report text LongWays = ⊥
IsCause name report text NotWays = ⊥
IsCause name report text (StrangeWay place) = ⊥

-- the answers of the analyser from which a log is made, as bytes: the report, what `waits` answers, what `ranges`
-- answers behind the bounds of objects, the list of the assumptions, and what is told of alarms
pub record Answers : Type 0 where
  pub report : List ℕ
  pub waits : List ℕ
  pub dead : List ℕ
  pub assumptions : List ℕ
  pub ways : List ℕ

-- the text of the waits, or of the dead places
abbrev pub text_of : Listing → Answers → List ℕ
text_of Waits answers = answers.waits
text_of DeadPlaces answers = answers.dead

-- the findings of a log: alarms, waits, dead places and assumptions
abbrev pub all_findings : List Alarm → List Place → List Place → List Assumption → List Finding
all_findings alarms waits dead assumptions =
    map finding_of alarms ++ (map (found_by Wait) waits ++ (map (found_by Dead) dead ++ map assumed_by assumptions))

-- these findings are those of the answers
pub record AreFindings (answers : Answers) (findings : List Finding) : Type 0 where
  pub alarms : List Alarm
  pub waiting : List Place
  pub unreached : List Place
  pub assumed : List Assumption
  pub reads : IsReportOf answers.report alarms
  pub reads_waits : IsListingOf Waits answers.waits waiting
  pub reads_dead : IsListingOf DeadPlaces answers.dead unreached
  pub reads_assumptions : AreAssumptionsOf answers.assumptions assumed
  pub are : findings ≡ all_findings alarms waiting unreached assumed

-- this is the cause for which answers have no log over a text
abbrev pub IsLogCause : List ℕ → Answers → List ℕ → Cause → Type 0
IsLogCause name answers text LongReport = longest_report < length answers.report
IsLogCause name answers text NotJson = IsUtf8 answers.report → read answers.report ≡ None
IsLogCause name answers text NotReport = (value : Data) × (read answers.report ≡ Some value) × IsNoReport value
IsLogCause name answers text LongText = longest_text < length text
IsLogCause name answers text (BrokenMark number) = (origins_of name text ≡ None) × IsBrokenAt (lines_of text) number
IsLogCause name answers text (Outside place) =
    (findings : List Finding) × (ways : List Way) × (origins : List Origin) × AreFindings answers findings
    × AreWaysOf answers.ways ways × AreOrigins name text origins
    × IsOutside origins (findings ++ map site_of ways) place
IsLogCause name answers text (LongListing listing) = longest_report < length (text_of listing answers)
IsLogCause name answers text (NotListing listing) = IsNoListing listing (text_of listing answers)
IsLogCause name answers text LongAssumptions = longest_report < length answers.assumptions
IsLogCause name answers text NotAssumptions = IsNoAssumptions answers.assumptions
IsLogCause name answers text LongWays = longest_report < length answers.ways
IsLogCause name answers text NotWays = IsNoWays answers.ways
IsLogCause name answers text (StrangeWay place) =
    (findings : List Finding) × (ways : List Way) × AreFindings answers findings × AreWaysOf answers.ways ways
    × IsOfNone findings ways place

-- a cause that findings give, where the lines of their text have these origins
abbrev pub IsMisplaced : List Origin → List Finding → Cause → Type 0
IsMisplaced origins findings LongReport = ⊥
IsMisplaced origins findings NotJson = ⊥
IsMisplaced origins findings NotReport = ⊥
IsMisplaced origins findings LongText = ⊥
IsMisplaced origins findings (BrokenMark number) = ⊥
IsMisplaced origins findings (Outside place) = IsOutside origins findings place
IsMisplaced origins findings (LongListing listing) = ⊥
IsMisplaced origins findings (NotListing listing) = ⊥
IsMisplaced origins findings LongAssumptions = ⊥
IsMisplaced origins findings NotAssumptions = ⊥
IsMisplaced origins findings LongWays = ⊥
IsMisplaced origins findings NotWays = ⊥
IsMisplaced origins findings (StrangeWay place) = ⊥

-- a cause that the ways give, which are shared out among these findings
abbrev pub IsStrange : List Finding → List Way → Cause → Type 0
IsStrange findings ways LongReport = ⊥
IsStrange findings ways NotJson = ⊥
IsStrange findings ways NotReport = ⊥
IsStrange findings ways LongText = ⊥
IsStrange findings ways (BrokenMark number) = ⊥
IsStrange findings ways (Outside place) = ⊥
IsStrange findings ways (LongListing listing) = ⊥
IsStrange findings ways (NotListing listing) = ⊥
IsStrange findings ways LongAssumptions = ⊥
IsStrange findings ways NotAssumptions = ⊥
IsStrange findings ways LongWays = ⊥
IsStrange findings ways NotWays = ⊥
IsStrange findings ways (StrangeWay place) = IsOfNone findings ways place
