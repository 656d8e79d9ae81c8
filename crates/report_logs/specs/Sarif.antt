-- Findings as a log in the format SARIF 2.1.0 (OASIS, 2020): one run, with all rules and a result for each finding.
-- Members stand in the order of their names.
use Rattle.std.specs.Prelude.{ℕ, ◌+◌, ◌==◌, Bool, true, false, List, [], ◌∷◌, ◌++◌, length, map, filter, codes}
use Rattle.std.specs.Prelude.{count_by, take_while, if◌then◌else◌}
use Rattle.serde_json.specs.Data.{Data, Members, array, boolean, member, no_members, number, object, string, unsigned}
use Rattle.serde_json.specs.View.{items_of}
use Rattle.serde_json.specs.Written.{compact_text}
use Rattle.tm_terms.specs.Alarms.{class_number}
use Rattle.tm_terms.specs.Texts.{line_of}
use Rattle.source_marks.specs.Names.{decoded}
use Rattle.place_details.specs.declared.regions.Region.{Region}
use Rattle.place_details.specs.declared.regions.Region.TheVariants.{Whole, From, Within}
use Rattle.report_reading.specs.declared.assumptions.AssumptionKind.{AssumptionKind}
use Rattle.report_reading.specs.declared.assumptions.AssumptionKind.TheVariants as Kinds
use Rattle.report_reading.specs.declared.ways.WayKind.{WayKind}
use Rattle.report_reading.specs.declared.ways.WayKind.TheVariants as Ways
use Rattle.report_reading.specs.Ways.{Way}
use Rattle.report_views.specs.Sentences.{level_text, rule_help, rule_sentence, rule_text, rules}
use Rattle.report_views.specs.declared.sentences.Rule.{Rule}
use Rattle.report_views.specs.declared.sentences.Rule.TheVariants.{Alarm, Wait, Dead, Assumption}
use Rattle.report_views.specs.Spots.{Spot}
use Rattle.report_logs.specs.Uris.{distinct, help_uri, uri_text}

-- an object whose one member is a text
abbrev pub text_data : List ℕ → Data
text_data text = object (member (codes "text") (string text) no_members)

-- ## The tool

-- a rule, which is explained in a folder of documents
abbrev pub rule_data : List ℕ → Rule → Data
rule_data documents rule =
    object (member (codes "defaultConfiguration")
    (object (member (codes "level") (string (level_text rule)) no_members))
    (member (codes "help") (text_data (rule_help rule))
    (member (codes "helpUri") (string (help_uri documents rule))
    (member (codes "id") (string (rule_text rule))
    (member (codes "shortDescription") (text_data (rule_sentence rule)) no_members)))))

-- the tool: its name, all rules, and its version
abbrev pub driver_data : List ℕ → Data
driver_data documents =
    object (member (codes "name") (string (codes "Cedratcleat"))
    (member (codes "rules") (array (items_of (map (rule_data documents) rules)))
    (member (codes "semanticVersion") (string (codes "1.0.0"))
    (member (codes "version") (string (codes "1.0.0")) no_members))))

-- the position of a kind among all
abbrev pub kind_number : AssumptionKind → ℕ
kind_number Kinds.Const = 0
kind_number Kinds.Enum = 1
kind_number Kinds.Implementation = 2
kind_number Kinds.Layout = 3
kind_number Kinds.Lifetime = 4
kind_number Kinds.Member = 5
kind_number Kinds.Order = 6
kind_number Kinds.Pragma = 7
kind_number Kinds.Reserved = 8
kind_number Kinds.Restrict = 9
kind_number Kinds.Unset = 10

-- the position of a rule among all
abbrev pub rule_number : Rule → ℕ
rule_number (Alarm class) = class_number class
rule_number Wait = 8
rule_number Dead = 9
rule_number (Assumption kind) = 10 + kind_number kind

-- ## Places

-- where in its file a place stands: in a line, which is whole, or from a column on, or up to another
abbrev pub region_data : ℕ → Region → Data
region_data line Whole = object (member (codes "startLine") (number (unsigned line)) no_members)
region_data line (From start) =
    object (member (codes "startColumn") (number (unsigned start))
    (member (codes "startLine") (number (unsigned line)) no_members))
region_data line (Within start end) =
    object (member (codes "endColumn") (number (unsigned end))
    (member (codes "startColumn") (number (unsigned start))
    (member (codes "startLine") (number (unsigned line)) no_members)))

-- a file
abbrev pub file_data : List ℕ → Data
file_data uri = object (member (codes "uri") (string uri) no_members)

-- a place of a file
abbrev pub physical_data : List ℕ → ℕ → Region → Data
physical_data uri line region =
    object (member (codes "artifactLocation") (file_data uri)
    (member (codes "region") (region_data line region) no_members))

-- a function, by its name
abbrev pub function_data : List ℕ → Data
function_data name =
    object (member (codes "kind") (string (codes "function"))
    (member (codes "name") (string (uri_text name)) no_members))

-- the function in which a place stands, if it stands in one
abbrev pub functions_data : List ℕ → List Data
functions_data name = if length name == 0 then [] else function_data name ∷ []

-- where a finding stands
abbrev pub location_data : List ℕ → ℕ → Region → List ℕ → Data
location_data uri line region function =
    object (member (codes "logicalLocations") (array (items_of (functions_data function)))
    (member (codes "physicalLocation") (physical_data uri line region) no_members))

-- what is told of an alarm: what it is, its sentence, and where that begins and ends in its file
pub record WayTold : Type 0 where
  pub kind : WayKind
  pub said : List ℕ
  pub spot : Spot
  pub region : Region

-- a finding in its file, where it begins and ends there, its function, its fingerprint, and what is told of it
pub record Told : Type 0 where
  pub spot : Spot
  pub region : Region
  pub function : List ℕ
  pub fingerprint : List ℕ
  pub ways : List WayTold

-- the file of a finding
abbrev pub file_of : Spot → List ℕ
file_of spot = uri_text (decoded spot.name)

-- ## What is told of alarms

-- where something stands, with its sentence
abbrev pub site_data : WayTold → Data
site_data way =
    object (member (codes "message") (text_data way.said)
    (member (codes "physicalLocation") (physical_data (file_of way.spot) way.spot.line way.region) no_members))

-- whether it is a place that belongs to the alarm
abbrev pub is_with_kind : WayKind → Bool
is_with_kind Ways.With = true
is_with_kind Ways.Path = false
is_with_kind Ways.Call = false

abbrev pub is_with : WayTold → Bool
is_with way = is_with_kind way.kind

-- whether it is a call of the path before it
abbrev pub is_call_kind : WayKind → Bool
is_call_kind Ways.With = false
is_call_kind Ways.Path = false
is_call_kind Ways.Call = true

abbrev pub is_call : WayTold → Bool
is_call way = is_call_kind way.kind

-- the places that belong to an alarm: what it races with, and where the object is declared
abbrev pub related_data : List WayTold → List Data
related_data ways = map site_data (filter is_with ways)

-- a place of a call path
abbrev pub frame_data : WayTold → Data
frame_data way = object (member (codes "location") (site_data way) no_members)

-- a call path that begins with this place: the place, and the calls behind it, from the innermost on
abbrev pub stack_data : WayTold → List WayTold → Data
stack_data way behind =
    object (member (codes "frames") (array (items_of (map frame_data (way ∷ take_while is_call behind))))
    (member (codes "message") (text_data way.said) no_members))

-- a call path, where one begins here
abbrev pub stack_here : WayKind → WayTold → List WayTold → List Data
stack_here Ways.With way behind = []
stack_here Ways.Path way behind = stack_data way behind ∷ []
stack_here Ways.Call way behind = []

-- the call paths of an alarm
abbrev pub stacks_data : List WayTold → List Data
stacks_data [] = []
stacks_data (way ∷ ways) = stack_here way.kind way ways ++ stacks_data ways

-- ## Results

-- what marks a finding in later logs
abbrev pub marks_data : List ℕ → Data
marks_data fingerprint = object (member (codes "cedratcleat/v1") (string fingerprint) no_members)

-- a rule that finds what a human is to look at
abbrev pub is_review : Rule → Bool
is_review (Alarm class) = false
is_review Wait = false
is_review Dead = false
is_review (Assumption kind) = true

-- what a result has: its level, its place, what it says, what marks it in later logs, the places that belong to it, its
-- rule by word and position, and its call paths
abbrev pub result_parts : List ℕ → Data → Data → Data → List Data → List ℕ → ℕ → List Data → Members
result_parts level location said marks related word position stacks =
    member (codes "level") (string level)
    (member (codes "locations") (array (items_of (location ∷ [])))
    (member (codes "message") said
    (member (codes "partialFingerprints") marks
    (member (codes "relatedLocations") (array (items_of related))
    (member (codes "ruleId") (string word)
    (member (codes "ruleIndex") (number (unsigned position))
    (member (codes "stacks") (array (items_of stacks)) no_members)))))))

abbrev pub result_members : Rule → Data → List ℕ → List WayTold → Members
result_members rule location fingerprint ways =
    result_parts (level_text rule) location (text_data (rule_sentence rule)) (marks_data fingerprint)
    (related_data ways) (rule_text rule) (rule_number rule) (stacks_data ways)

-- the members of a result that a human is to look at
abbrev pub review_members : Members → Members
review_members members = member (codes "kind") (string (codes "review")) members

-- a result; one that a human is to look at says so, and any other has no kind, which is that of a failure (3.27.9)
abbrev pub result_of : Rule → Data → List ℕ → List WayTold → Data
result_of rule location fingerprint ways =
    if is_review rule then object (review_members (result_members rule location fingerprint ways))
    else object (result_members rule location fingerprint ways)

-- a finding
abbrev pub result_data : Told → Data
result_data told =
    result_of told.spot.rule (location_data (file_of told.spot) told.spot.line told.region told.function)
    told.fingerprint told.ways

-- findings with what is told of each
abbrev pub told_of : List Spot → List Region → List (List ℕ) → List (List ℕ) → List (List WayTold) → List Told
told_of (spot ∷ spots) (region ∷ regions) (function ∷ functions) (fingerprint ∷ fingerprints) (ways ∷ shared) =
    record { spot = spot; region = region; function = function; fingerprint = fingerprint; ways = ways }
    ∷ told_of spots regions functions fingerprints shared
told_of _ _ _ _ _ = []

-- what is told of alarms, in files
abbrev pub ways_told : List Way → List Spot → List Region → List WayTold
ways_told (way ∷ ways) (spot ∷ spots) (region ∷ regions) =
    record { kind = way.kind; said = way.said; spot = spot; region = region } ∷ ways_told ways spots regions
ways_told _ _ _ = []

-- ## The log

-- a file that is analysed, or in which results stand
abbrev pub artifact_data : List ℕ → Data
artifact_data uri = object (member (codes "location") (file_data uri) no_members)

-- an alarm or a wait, which is to be mended
abbrev pub is_problem : Rule → Bool
is_problem (Alarm class) = true
is_problem Wait = true
is_problem Dead = false
is_problem (Assumption kind) = false

-- how many findings are to be mended
abbrev pub problems : List Spot → ℕ
problems spots = count_by (λ spot. is_problem spot.rule) spots

-- the status with which the analysis ends
abbrev pub exit_code : List Spot → ℕ
exit_code spots = if problems spots == 0 then 0 else 1

-- the analysis: whether it came to its results, and what it tells of itself
abbrev pub invocation_data : Bool → ℕ → List Data → Data
invocation_data successful code told =
    object (member (codes "executionSuccessful") (boolean successful)
    (member (codes "exitCode") (number (unsigned code))
    (member (codes "toolExecutionNotifications") (array (items_of told)) no_members)))

-- one run of the tool
abbrev pub run_data : List ℕ → Data → List (List ℕ) → List Data → Data
run_data documents invocation files results =
    object (member (codes "artifacts") (array (items_of (map artifact_data (distinct files))))
    (member (codes "columnKind") (string (codes "utf16CodeUnits"))
    (member (codes "invocations") (array (items_of (invocation ∷ [])))
    (member (codes "results") (array (items_of results))
    (member (codes "tool") (object (member (codes "driver") (driver_data documents) no_members)) no_members)))))

-- the log of a run
abbrev pub log_data : Data → Data
log_data run =
    object (member (codes "$schema") (string (codes "https://json.schemastore.org/sarif-2.1.0.json"))
    (member (codes "runs") (array (items_of (run ∷ [])))
    (member (codes "version") (string (codes "2.1.0")) no_members)))

-- the run in which findings were told, of a file of this name: where they and what is told of them stand
abbrev pub found_data : List ℕ → List ℕ → List Spot → List Spot → List Told → Data
found_data documents name spots sites told =
    run_data documents (invocation_data true (exit_code spots) []) (uri_text name ∷ map file_of (spots ++ sites))
    (map result_data told)

-- the log of findings in one line
abbrev pub sarif_text : List ℕ → List ℕ → List Spot → List Spot → List Told → List ℕ
sarif_text documents name spots sites told =
    line_of (compact_text (log_data (found_data documents name spots sites told)))
