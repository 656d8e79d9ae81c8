-- What is written part by part are the tokens of values, and their text.
use Rattle.std.proofs.Common.{◌≡◌, ◌∙◌, ℕ, List, [], ◌∷◌, ◌++◌, Bool, true, false, ◌==◌, ap, codes, cond, length, map, refl, sym, append_assoc}
use Rattle.json.specs.Print.{print}
use Rattle.json.specs.Token.{Token, begin_array, begin_object, end_array, end_object, key}
use Rattle.json.specs.Written.{Written}
use Rattle.serde_json.specs.Data.{Data, Members, array, number, object, string, unsigned}
use Rattle.serde_json.specs.View.{items_of}
use Rattle.serde_json.specs.Written.{compact_text}
use Rattle.serde_json.proofs.Texts.{print-outline}
use Rattle.tm_terms.specs.Texts.{line_of}
use Rattle.place_details.specs.declared.regions.Region.{Region}
use Rattle.place_details.specs.declared.regions.Region.TheVariants.{Whole, From, Within}
use Rattle.report_views.specs.Sentences.{level_text, rule_sentence, rule_text}
use Rattle.report_logs.specs.Sarif.{Told, artifact_data, driver_data, file_of, functions_data, is_review, location_data}
use Rattle.report_logs.specs.Sarif.{invocation_data, log_data, marks_data, region_data, related_data, result_data, result_members}
use Rattle.report_logs.specs.Sarif.{review_members, rule_number, run_data, stacks_data, text_data}
use Rattle.report_logs.specs.Uris.{distinct, uri_text}
use Rattle.report_logs.specs.reading.Written.{AppendsValue, back_tokens, column_tokens, front_tokens}
use Rattle.report_logs.specs.reading.Written.{invocation_tokens, kind_tokens, locations_tokens, member_tokens, value_tokens}

pub region_tokens : (line : ℕ) (region : Region)
    → begin_object
    ∷ (column_tokens region ++ (member_tokens (codes "startLine") (number (unsigned line)) ++ (end_object ∷ [])))
    ≡ value_tokens (region_data line region)
region_tokens line Whole = refl
region_tokens line (From start) = refl
region_tokens line (Within start end) = refl

-- a place that stands in a function
pub function_tokens : (name : List ℕ) → (length name == 0) ≡ false
    → begin_array ∷ begin_object
    ∷ (member_tokens (codes "kind") (string (codes "function"))
    ++ (member_tokens (codes "name") (string (uri_text name)) ++ (end_object ∷ end_array ∷ [])))
    ≡ value_tokens (array (items_of (functions_data name)))
function_tokens name some = rw some refl

-- the members of a result behind its kind, and their tokens
abbrev members_of : Told → Members
members_of told =
    result_members told.spot.rule
    (location_data (file_of told.spot) told.spot.line told.region told.function) told.fingerprint told.ways

abbrev parts_tokens : Told → List Token
parts_tokens told =
    member_tokens (codes "level") (string (level_text told.spot.rule))
    ++ (locations_tokens told
    ++ (member_tokens (codes "message") (text_data (rule_sentence told.spot.rule))
    ++ (member_tokens (codes "partialFingerprints") (marks_data told.fingerprint)
    ++ (member_tokens (codes "relatedLocations") (array (items_of (related_data told.ways)))
    ++ (member_tokens (codes "ruleId") (string (rule_text told.spot.rule))
    ++ (member_tokens (codes "ruleIndex") (number (unsigned (rule_number told.spot.rule)))
    ++ (member_tokens (codes "stacks") (array (items_of (stacks_data told.ways))) ++ (end_object ∷ []))))))))

result_if : (b : Bool) (told : Told)
    → begin_object ∷ (kind_tokens b ++ parts_tokens told)
    ≡ value_tokens (cond b (object (review_members (members_of told))) (object (members_of told)))
result_if true told = refl
result_if false told = refl

pub result_tokens : (told : Told)
    → begin_object ∷ (kind_tokens (is_review told.spot.rule) ++ parts_tokens told) ≡ value_tokens (result_data told)
result_tokens told = result_if (is_review told.spot.rule) told

-- an analysis that tells one thing of itself
pub invocation_told : (successful : Bool) (code : ℕ) (value : Data)
    → invocation_tokens successful code ++ (value_tokens value ++ (end_array ∷ end_object ∷ []))
    ≡ value_tokens (invocation_data successful code (value ∷ []))
invocation_told successful code value =
    ap (λ rest. invocation_tokens successful code ++ rest)
    (sym (append_assoc (value_tokens value) (end_array ∷ []) (end_object ∷ [])))

-- the parts of a log, one behind the other
grouped : (artifacts invocation results driver version : List Token) (a b c d e : Token)
    → (artifacts ++ (a ∷ b ∷ c ∷ begin_array ∷ []))
    ++ (invocation ++ (end_array ∷ d ∷ (results ++ (e ∷ begin_object ∷ key (codes "driver")
    ∷ (driver ++ (end_object ∷ end_object ∷ end_array ∷ version))))))
    ≡ ((artifacts ++ (a ∷ b ∷ c ∷ ((begin_array ∷ (invocation ++ (end_array ∷ [])))
    ++ (d ∷ (results ++ (e ∷ ((begin_object ∷ key (codes "driver") ∷ (driver ++ (end_object ∷ [])))
    ++ (end_object ∷ []))))))))
    ++ (end_array ∷ [])) ++ version
grouped artifacts invocation results driver version a b c d e = simp append_assoc

pub log_tokens : (documents : List ℕ) (invocation : Data) (files : List (List ℕ)) (results : List Data)
    → front_tokens files ++ (value_tokens invocation ++ (end_array ∷ key (codes "results")
    ∷ (value_tokens (array (items_of results)) ++ back_tokens documents)))
    ≡ value_tokens (log_data (run_data documents invocation files results))
log_tokens documents invocation files results =
    ap (λ rest. begin_object ∷ (member_tokens (codes "$schema")
    (string (codes "https://json.schemastore.org/sarif-2.1.0.json"))
    ++ (key (codes "runs") ∷ begin_array ∷ begin_object ∷ key (codes "artifacts") ∷ rest)))
    (grouped (value_tokens (array (items_of (map artifact_data (distinct files))))) (value_tokens invocation)
    (value_tokens (array (items_of results))) (value_tokens (driver_data documents))
    (member_tokens (codes "version") (string (codes "2.1.0")) ++ (end_object ∷ [])) (key (codes "columnKind"))
    (Token.string (codes "utf16CodeUnits")) (key (codes "invocations")) (key (codes "results")) (key (codes "tool")))

-- the text of what was written alone
pub log_line : {a b : Written} (value : Data) (text : List ℕ) → a.before ≡ [] → a.tokens ≡ [] → AppendsValue a b value
    → text ≡ line_of (b.before ++ print b.tokens) → text ≡ line_of (compact_text value)
log_line {a} {b} value text none new wrote is =
    is ∙ ap (λ front. line_of (front ++ print b.tokens)) (wrote.before ∙ none)
    ∙ ap (λ tokens. line_of (print tokens)) (wrote.behind ∙ ap (λ front. front ++ value_tokens value) new)
    ∙ ap line_of (print-outline value)
