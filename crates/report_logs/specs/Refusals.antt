-- The log of a refusal: why the analysis of a source came to no results.
use Rattle.std.specs.Prelude.{ℕ, ◌==◌, false, List, [], ◌∷◌, codes, Option, Some, None, option_and_then}
use Rattle.std.specs.Prelude.{if◌then◌else◌}
use Rattle.serde_json.specs.Data.{Data, array, member, no_members, object, string}
use Rattle.serde_json.specs.View.{items_of}
use Rattle.serde_json.specs.Written.{compact_text}
use Rattle.tm_terms.specs.Texts.{line_of}
use Rattle.tm_terms.specs.declared.places.Place.{Place}
use Rattle.source_marks.specs.Marks.{Origin, origins_of}
use Rattle.source_marks.specs.Names.{decoded}
use Rattle.place_details.specs.Details.{Sight, function_of, region_of}
use Rattle.report_views.specs.Spots.{origin_at}
use Rattle.report_logs.specs.Sarif.{invocation_data, location_data, log_data, run_data, text_data}
use Rattle.report_logs.specs.Uris.{uri_text}

-- a refusal: where the source is refused, the word of its kind, and what it means
pub record Refusal : Type 0 where
  pub place : Place
  pub word : List ℕ
  pub said : List ℕ

-- ## Where it stands

-- an origin that is a line of a file, counted from 1
abbrev pub in_file : Origin → Option Origin
in_file origin = if origin.line == 0 then None else Some origin

-- where the line with this number comes from, by these origins
abbrev pub file_line : List Origin → ℕ → Option Origin
file_line origins number = option_and_then in_file (origin_at origins number)

-- where a place of a text, whose first file has this name, comes from: nowhere where a mark of the text cannot be read,
-- or the text has no such line
abbrev pub origin_of : List ℕ → List ℕ → Place → Option Origin
origin_of name text place = option_and_then (λ origins. file_line origins place.line) (origins_of name text)

-- what is asked of the place of a refusal
abbrev pub refused_sight : Refusal → Origin → Sight
refused_sight refusal origin = record { place = refusal.place; name = origin.name; word = refusal.word }

-- the file of an origin
abbrev pub origin_file : Origin → List ℕ
origin_file origin = uri_text (decoded origin.name)

-- where a refusal stands, in its file
abbrev pub refused_place : List ℕ → List ℕ → Refusal → Origin → Data
refused_place text lines refusal origin =
    location_data (origin_file origin) origin.line (region_of text lines (refused_sight refusal origin))
    (function_of text (refused_sight refusal origin))

-- the place of a refusal and its file, if the text tells them
abbrev pub refused_places : List ℕ → List ℕ → Refusal → Option Origin → List Data
refused_places text lines refusal None = []
refused_places text lines refusal (Some origin) = refused_place text lines refusal origin ∷ []

abbrev pub refused_files : Option Origin → List (List ℕ)
refused_files None = []
refused_files (Some origin) = origin_file origin ∷ []

-- ## The log

-- what the tool tells of itself (3.58 of the format): the kind of the refusal, what it means, and where it stands
abbrev pub notification_data : Refusal → List Data → Data
notification_data refusal places =
    object (member (codes "descriptor") (object (member (codes "id") (string refusal.word) no_members))
    (member (codes "level") (string (codes "error"))
    (member (codes "locations") (array (items_of places))
    (member (codes "message") (text_data refusal.said) no_members))))

-- the status with which the analysis of a source that is refused ends
abbrev pub refused_code : ℕ
refused_code = 2

-- the analysis that was refused
abbrev pub refused_invocation : List ℕ → List ℕ → Refusal → Option Origin → Data
refused_invocation text lines refusal origin =
    invocation_data false refused_code (notification_data refusal (refused_places text lines refusal origin) ∷ [])

-- the run in which a source of this name was refused: it has no results
abbrev pub refused_data : List ℕ → List ℕ → List ℕ → List ℕ → Refusal → Option Origin → Data
refused_data documents name text lines refusal origin =
    run_data documents (refused_invocation text lines refusal origin) (uri_text name ∷ refused_files origin) []

-- the log of that run in one line
abbrev pub refused_line : List ℕ → List ℕ → List ℕ → List ℕ → Refusal → Option Origin → List ℕ
refused_line documents name text lines refusal origin =
    line_of (compact_text (log_data (refused_data documents name text lines refusal origin)))

-- the log of a refusal of a text, whose first file has this name. Names of folders and files are as line marks spell
-- them.
abbrev pub refusal_text : List ℕ → List ℕ → List ℕ → List ℕ → Refusal → List ℕ
refusal_text documents name text lines refusal =
    refused_line (decoded documents) (decoded name) text lines refusal (origin_of name text refusal.place)
