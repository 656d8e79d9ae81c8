-- The alarms that a JSON value has, whatever else it has.
use Rattle.std.specs.Prelude.{ℕ, ◌^◌, List, [], ◌∷◌, nat_lt, codes, Option, Some, None, option_map, option_and_then}
use Rattle.std.specs.Prelude.{if◌then◌else◌, bytes_eq}
use Rattle.serde_json.specs.Data.{Data, Items, no_items, item}
use Rattle.serde_json.specs.Find.{as_array, as_number, as_str, as_u64, get}
use Rattle.tm_cint.specs.declared.Class.{Class}
use Rattle.tm_cint.specs.declared.Class.TheVariants.{Overflow, Div, Shift, Index, Pointer, Deref, Lock, Race}
use Rattle.tm_terms.specs.declared.alarms.Alarm.{Alarm}

abbrev pub class_of : List ℕ → Option Class
class_of word =
    if bytes_eq word (codes "OVERFLOW") then Some Overflow
    else (if bytes_eq word (codes "DIV") then Some Div
    else (if bytes_eq word (codes "SHIFT") then Some Shift
    else (if bytes_eq word (codes "INDEX") then Some Index
    else (if bytes_eq word (codes "POINTER") then Some Pointer
    else (if bytes_eq word (codes "DEREF") then Some Deref
    else (if bytes_eq word (codes "LOCK") then Some Lock
    else (if bytes_eq word (codes "RACE") then Some Race
    else None)))))))

abbrev pub if_small : ℕ → Option ℕ
if_small n = if nat_lt n (2 ^ 32) then Some n else None

abbrev pub number_in : List ℕ → Data → Option ℕ
number_in key value =
    option_and_then if_small (option_and_then as_u64 (option_and_then as_number (get key value)))

abbrev pub class_in : Data → Option Class
class_in value = option_and_then class_of (option_and_then as_str (get (codes "class") value))

abbrev pub alarm_of : Option Class → Option ℕ → Option ℕ → Option Alarm
alarm_of (Some k) (Some col) (Some line) = Some (record { place = record { line = line; col = col }; class = k })
alarm_of _ _ _ = None

abbrev pub alarm_in : Data → Option Alarm
alarm_in value = alarm_of (class_in value) (number_in (codes "col") value) (number_in (codes "line") value)

abbrev pub before : Option Alarm → Option (List Alarm) → Option (List Alarm)
before (Some alarm) alarms = option_map (λ rest. alarm ∷ rest) alarms
before None alarms = None

abbrev pub alarms_of : List Data → Option (List Alarm)
alarms_of [] = Some []
alarms_of (value ∷ values) = before (alarm_in value) (alarms_of values)

abbrev pub list_of : Items → List Data
list_of no_items = []
list_of (item value values) = value ∷ list_of values

abbrev pub items_in : Data → Option Items
items_in value = option_and_then as_array (get (codes "alarms") value)

abbrev pub alarms_in : Data → Option (List Alarm)
alarms_in value = option_and_then (λ items. alarms_of (list_of items)) (items_in value)
