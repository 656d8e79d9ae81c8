-- Alarms as JSON, in the parts that stand before, between and behind the lists of one.
use Rattle.std.specs.Prelude.{ℕ, Bool, List, [], ◌++◌, codes, Option, Some, None}
use Rattle.tm_cint.specs.declared.Class.{Class}
use Rattle.tm_cint.specs.declared.int_types.IntType.{IntType}
use Rattle.tm_terms.specs.declared.places.Place.{Place}
use Rattle.tm_terms.specs.Texts.{class_text}
use Rattle.flow_graph.specs.declared.operations.Operation.{Operation}
use Rattle.notes_json.specs.Pieces.{number_text, option_text, word_text, truth_text}
use Rattle.notes_json.specs.Words.{type_text}
use Rattle.notes_json.specs.Operations.{operator_text, type_of, length_of, cells_of, mutex_of, rule_text}

-- {"always":false,["cells":CELLS,]"class":"CLASS","col":COL
abbrev pub alarm_front : Place → Class → Bool → Operation → List ℕ
alarm_front place class always operation = (codes "{\"always\":" ++ truth_text always) ++ (codes ","
    ++ (option_text (codes "\"cells\":") (cells_of operation) ++ (word_text (codes "\"class\":\"") (class_text class)
    ++ number_text (codes ",\"col\":") place.col)))

-- ,"function":"FUNCTION",["length":LENGTH,]"line":LINE,["mutex":MUTEX,]"operands":[
abbrev pub alarm_lines : Place → List ℕ → Operation → List ℕ
alarm_lines place function operation = word_text (codes ",\"function\":\"") function ++ (codes ","
    ++ (option_text (codes "\"length\":") (length_of operation) ++ (number_text (codes "\"line\":") place.line
    ++ (codes "," ++ (option_text (codes "\"mutex\":") (mutex_of operation) ++ codes "\"operands\":[")))))

-- ,"path_count":COUNT,"paths":[
abbrev pub paths_front : ℕ → List ℕ
paths_front paths = number_text (codes ",\"path_count\":") paths ++ codes ",\"paths\":["

-- ],"operator":"OPERATOR","path_count":COUNT,"paths":[
abbrev pub alarm_middle : Operation → ℕ → List ℕ
alarm_middle operation paths = word_text (codes "],\"operator\":\"") (operator_text operation) ++ paths_front paths

-- ][,"rule":"RULE"],"tasks":[
abbrev pub alarm_back : Operation → List ℕ
alarm_back operation = codes "]" ++ (rule_text operation ++ codes ",\"tasks\":[")

-- the type in which it computes
abbrev pub type_member : Option IntType → List ℕ
type_member None = []
type_member (Some of) = word_text (codes ",\"type\":\"") (type_text of)

-- ][,"type":"TYPE"]}
abbrev pub alarm_end : Operation → List ℕ
alarm_end operation = codes "]" ++ (type_member (type_of operation) ++ codes "}")

-- ],"class":"RACE","col":COL,"function":"FUNCTION","line":LINE,"path_count":COUNT,"paths":[
abbrev pub race_middle : Place → List ℕ → ℕ → List ℕ
race_middle place function paths = number_text (codes "],\"class\":\"RACE\",\"col\":") place.col
    ++ (word_text (codes ",\"function\":\"") function ++ (number_text (codes ",\"line\":") place.line
    ++ paths_front paths))

-- ],"task":TASK}
abbrev pub path_back : ℕ → List ℕ
path_back task = number_text (codes "],\"task\":") task ++ codes "}"
