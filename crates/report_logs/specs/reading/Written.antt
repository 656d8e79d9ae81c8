-- What is written of a log, as tokens of JSON.
use Rattle.std.specs.Prelude.{◌≡◌, ℕ, Bool, true, false, List, [], ◌∷◌, ◌++◌, codes, map}
use Rattle.json.specs.Token.{Token, begin_array, begin_object, end_array, end_object, key}
use Rattle.json.specs.Tree.{items_tokens, json_tokens}
use Rattle.json.specs.Written.{Written}
use Rattle.serde_json.specs.Data.{Data, array, boolean, number, string, unsigned}
use Rattle.serde_json.specs.View.{items_of}
use Rattle.serde_json.specs.Written.{items_outline, outline}
use Rattle.place_details.specs.declared.regions.Region.{Region}
use Rattle.place_details.specs.declared.regions.Region.TheVariants.{Whole, From, Within}
use Rattle.report_reading.specs.declared.ways.WayKind.{WayKind}
use Rattle.report_reading.specs.declared.ways.WayKind.TheVariants as Ways
use Rattle.report_logs.specs.Sarif.{Told, WayTold, artifact_data, driver_data, file_of, location_data, site_data}
use Rattle.report_logs.specs.Sarif.{stack_data}
use Rattle.report_logs.specs.Uris.{distinct}

-- the tokens of a value
abbrev pub value_tokens : Data → List Token
value_tokens value = json_tokens (outline value)

-- those of the last items of a list, and of its end
abbrev pub last_tokens : List Data → List Token
last_tokens values = items_tokens (items_outline (items_of values))

-- those of a member
abbrev pub member_tokens : List ℕ → Data → List Token
member_tokens name value = key name ∷ value_tokens value

-- these were written behind those that stood there
pub record Appends (old new : Written) (tokens : List Token) : Type 0 where
  pub before : new.before ≡ old.before
  pub behind : new.tokens ≡ old.tokens ++ tokens

-- those of a value were
abbrev pub AppendsValue : Written → Written → Data → Type 0
AppendsValue old new value = Appends old new (value_tokens value)

-- with the rest behind it, all is what was to be written
pub record Completes (old new : Written) (all rest : List Token) : Type 0 where
  pub before : new.before ≡ old.before
  pub whole : old.tokens ++ all ≡ new.tokens ++ rest

-- ## Parts of values

-- the columns between which a place stands, as far as they are known
abbrev pub column_tokens : Region → List Token
column_tokens Whole = []
column_tokens (From start) = member_tokens (codes "startColumn") (number (unsigned start))
column_tokens (Within start end) =
    member_tokens (codes "endColumn") (number (unsigned end))
    ++ member_tokens (codes "startColumn") (number (unsigned start))

-- a place that belongs to an alarm, if this is one
abbrev pub related_tokens : Bool → WayTold → List Token
related_tokens true way = value_tokens (site_data way)
related_tokens false way = []

-- a call path, where one begins here
abbrev pub stack_tokens : WayKind → WayTold → List WayTold → List Token
stack_tokens Ways.With way behind = []
stack_tokens Ways.Path way behind = value_tokens (stack_data way behind)
stack_tokens Ways.Call way behind = []

-- that a human is to look at a result, where it is so
abbrev pub kind_tokens : Bool → List Token
kind_tokens true = member_tokens (codes "kind") (string (codes "review"))
kind_tokens false = []

-- the place of a result
abbrev pub locations_tokens : Told → List Token
locations_tokens told =
    member_tokens (codes "locations") (array (items_of
    (location_data (file_of told.spot) told.spot.line told.region told.function ∷ [])))

-- ## Parts of the log

-- the front of a log, with the files, each once, up to the analysis
abbrev pub front_tokens : List (List ℕ) → List Token
front_tokens files =
    begin_object
    ∷ (member_tokens (codes "$schema") (string (codes "https://json.schemastore.org/sarif-2.1.0.json"))
    ++ (key (codes "runs") ∷ begin_array ∷ begin_object
    ∷ (member_tokens (codes "artifacts") (array (items_of (map artifact_data (distinct files))))
    ++ (member_tokens (codes "columnKind") (string (codes "utf16CodeUnits"))
    ++ (key (codes "invocations") ∷ begin_array ∷ [])))))

-- the front of the analysis, up to what it tells of itself
abbrev pub invocation_tokens : Bool → ℕ → List Token
invocation_tokens successful code =
    begin_object
    ∷ (member_tokens (codes "executionSuccessful") (boolean successful)
    ++ (member_tokens (codes "exitCode") (number (unsigned code))
    ++ (key (codes "toolExecutionNotifications") ∷ begin_array ∷ [])))

-- what stands behind the results
abbrev pub back_tokens : List ℕ → List Token
back_tokens documents =
    key (codes "tool") ∷ begin_object
    ∷ (member_tokens (codes "driver") (driver_data documents)
    ++ (end_object ∷ end_object ∷ end_array
    ∷ (member_tokens (codes "version") (string (codes "2.1.0")) ++ (end_object ∷ []))))
