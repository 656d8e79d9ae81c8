-- Tasks, mutexes and objects as JSON, and the bounds of what objects hold.
use Rattle.std.specs.Prelude.{ℕ, ℤ, Bool, true, false, List, [], ◌++◌, codes, Option, Some, None}
use Rattle.std.specs.Fmt.{signed_decimal}
use Rattle.tm_terms.specs.declared.places.Place.{Place}
use Rattle.notes_json.specs.Pieces.{number_text, word_text, truth_text}

-- ## Tasks and mutexes

-- the priority of a task; the initial section has none
abbrev pub priority_text : Option ℕ → List ℕ
priority_text None = codes ",\"priority\":null}"
priority_text (Some n) = number_text (codes ",\"priority\":") n ++ codes "}"

abbrev pub is_none : Option ℕ → Bool
is_none None = true
is_none (Some n) = false

-- {"col":COL,"initial":false,"line":LINE,"name":"NAME","priority":PRIORITY}
abbrev pub task_text : Place → List ℕ → Option ℕ → List ℕ
task_text place name priority = number_text (codes "{\"col\":") place.col
    ++ ((codes ",\"initial\":" ++ truth_text (is_none priority)) ++ (number_text (codes ",\"line\":") place.line
    ++ (word_text (codes ",\"name\":\"") name ++ priority_text priority)))

-- {"col":COL,"line":LINE,"name":"NAME"}
abbrev pub mutex_text : Place → List ℕ → List ℕ
mutex_text place name = number_text (codes "{\"col\":") place.col ++ (number_text (codes ",\"line\":") place.line
    ++ (word_text (codes ",\"name\":\"") name ++ codes "}"))

-- ## Objects

-- the function and the task of an object that has not static storage
abbrev pub function_text : List ℕ → Option ℕ → List ℕ
function_text function None = []
function_text function (Some task) = word_text (codes "\"function\":\"") function ++ codes ","

abbrev pub owner_text : Option ℕ → List ℕ
owner_text None = codes ",\"static\":true"
owner_text (Some task) = number_text (codes ",\"static\":false,\"task\":") task

-- a number with a sign behind bytes
abbrev pub signed_text : List ℕ → ℤ → List ℕ
signed_text before n = before ++ signed_decimal n

-- {"col":COL,["function":"FUNCTION",]
abbrev pub object_front : Place → List ℕ → Option ℕ → List ℕ
object_front place function task =
    number_text (codes "{\"col\":") place.col ++ (codes "," ++ function_text function task)

-- "line":LINE
abbrev pub line_text : ℕ → List ℕ
line_text line = number_text (codes "\"line\":") line

-- "hi":HIGH,"line":LINE,"lo":LOW,"members":[
abbrev pub range_text : ℕ → ℤ → ℤ → List ℕ
range_text line low high = signed_text (codes "\"hi\":") high ++ (number_text (codes ",\"line\":") line
    ++ (signed_text (codes ",\"lo\":") low ++ codes ",\"members\":["))

-- {"hi":HIGH,"lo":LOW,"name":"NAME","volatile":false}
abbrev pub member_text : List ℕ → ℤ → ℤ → Bool → List ℕ
member_text name low high volatile = signed_text (codes "{\"hi\":") high
    ++ (signed_text (codes ",\"lo\":") low ++ (word_text (codes ",\"name\":\"") name
    ++ ((codes ",\"volatile\":" ++ truth_text volatile) ++ codes "}")))

-- ,"name":"NAME","size":CELLS,"static":false[,"task":TASK],"type":"TYPE"}
abbrev pub object_back : List ℕ → ℕ → Option ℕ → List ℕ → List ℕ
object_back name cells task words = word_text (codes ",\"name\":\"") name
    ++ (number_text (codes ",\"size\":") cells ++ (owner_text task
    ++ (word_text (codes ",\"type\":\"") words ++ codes "}")))
