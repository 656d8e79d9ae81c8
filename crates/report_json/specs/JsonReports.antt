-- The report as JSON (RFC 8259): the text byte for byte, and the value that a reader of JSON takes it for.
use Rattle.std.specs.Prelude.{ℕ, List, ◌++◌, length, map, codes, decimal}
use Rattle.std.specs.List.{join_with_byte}
use Rattle.serde_json.specs.Data.{Data, array, member, no_members, number, object, string, unsigned}
use Rattle.serde_json.specs.View.{items_of}
use Rattle.tm_terms.specs.declared.alarms.Alarm.{Alarm}
use Rattle.tm_terms.specs.Texts.{class_text, line_of}

-- ## The text

-- {"class":"CLASS","col":COL,"line":LINE}
abbrev pub alarm_json : Alarm → List ℕ
alarm_json alarm = codes "{\"class\":\"" ++ (class_text alarm.class
    ++ (codes "\",\"col\":" ++ (decimal alarm.place.col
    ++ (codes ",\"line\":" ++ (decimal alarm.place.line ++ codes "}")))))

-- the alarms with a comma, which is byte 44, between each and the next
abbrev pub alarms_json : List Alarm → List ℕ
alarms_json alarms = join_with_byte 44 (map alarm_json alarms)

-- {"alarms":[ALARMS],"count":N}
abbrev pub report_object : List Alarm → List ℕ
report_object alarms = codes "{\"alarms\":[" ++ (alarms_json alarms
    ++ (codes "],\"count\":" ++ (decimal (length alarms) ++ codes "}")))

-- a report in one line
abbrev pub json_text : List Alarm → List ℕ
json_text alarms = line_of (report_object alarms)

-- ## The value

-- an alarm: its class by its word, its column and its line
abbrev pub alarm_data : Alarm → Data
alarm_data alarm = object (member (codes "class") (string (class_text alarm.class))
    (member (codes "col") (number (unsigned alarm.place.col))
    (member (codes "line") (number (unsigned alarm.place.line)) no_members)))

-- a report: its alarms in their order, and how many they are
abbrev pub report_data : List Alarm → Data
report_data alarms = object (member (codes "alarms") (array (items_of (map alarm_data alarms)))
    (member (codes "count") (number (unsigned (length alarms))) no_members))
