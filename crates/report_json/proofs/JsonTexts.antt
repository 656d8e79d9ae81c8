-- The compact text of a report's value is its line, and no number in it is a float.
use Rattle.std.proofs.Common.{◌≡◌, ℕ, ◌≤◌, List, [], ◌∷◌, ◌++◌, length, map, codes, decimal, refl, ap, sym, ◌∙◌, append_assoc, arith, false, subst, true, Some}
use Rattle.tm_terms.specs.tm_cint.declared.Class.TheVariants.{Overflow, Div, Shift, Index, Pointer, Deref, Lock, Race}
use Rattle.std.specs.List.{join_with_byte}
use Rattle.serde_json.specs.Data.{Data, depth, items_depth}
use Rattle.serde_json.specs.View.{items_of}
use Rattle.serde_json.specs.Written.{compact_text, has_float, items_have_float, items_text}
use Rattle.serde_json.specs.Read.{max_depth, read}
use Rattle.serde_json.proofs.OnLiterals.{serde_json_on_literals}
use Rattle.tm_terms.specs.tm_cint.declared.Class.{Class}
use Rattle.tm_terms.specs.declared.alarms.Alarm.{Alarm}
use Rattle.tm_terms.specs.declared.places.Place.{Place}
use Rattle.report_json.specs.JsonReports.{alarm_data, alarm_json, alarms_json, json_text, report_data, report_object}

abbrev alarm_at : Class → Place → Alarm
alarm_at class place = record { place = place; class = class }

text_at : (class : Class) (place : Place) → compact_text (alarm_data (alarm_at class place)) ≡ alarm_json (alarm_at class place)
unfolding serde_json_on_literals
text_at Overflow place = refl
text_at Div place = refl
text_at Shift place = refl
text_at Index place = refl
text_at Pointer place = refl
text_at Deref place = refl
text_at Lock place = refl
text_at Race place = refl

alarm_text : (alarm : Alarm) → compact_text (alarm_data alarm) ≡ alarm_json alarm
alarm_text alarm = text_at alarm.class alarm.place

-- the alarms behind the first, each with its comma, and the bracket that closes them
later_items : (alarms : List Alarm) (front : List ℕ)
    → front ++ items_text true (items_of (map alarm_data alarms)) ≡ join_with_byte 44 (front ∷ map alarm_json alarms) ++ 93 ∷ []
later_items [] front = refl
later_items (alarm ∷ alarms) front =
    ap (λ text. front ++ 44 ∷ (text ++ items_text true (items_of (map alarm_data alarms)))) (alarm_text alarm)
    ∙ ap (λ text. front ++ 44 ∷ text) (later_items alarms (alarm_json alarm))
    ∙ sym (append_assoc front (44 ∷ join_with_byte 44 (alarm_json alarm ∷ map alarm_json alarms)) (93 ∷ []))

items : (alarms : List Alarm) → items_text false (items_of (map alarm_data alarms)) ≡ alarms_json alarms ++ 93 ∷ []
items [] = refl
items (alarm ∷ alarms) = ap (λ text. text ++ items_text true (items_of (map alarm_data alarms))) (alarm_text alarm) ∙ later_items alarms (alarm_json alarm)

pub report_text : (alarms : List Alarm) → compact_text (report_data alarms) ≡ report_object alarms
unfolding serde_json_on_literals
report_text alarms =
    let rest : List ℕ = codes ",\"count\":" ++ (decimal (length alarms) ++ codes "}") in
    ap (λ text. codes "{\"alarms\":[" ++ (text ++ rest)) (items alarms)
    ∙ ap (λ text. codes "{\"alarms\":[" ++ text) (append_assoc (alarms_json alarms) (93 ∷ []) rest)

no_float_items : (alarms : List Alarm) → items_have_float (items_of (map alarm_data alarms)) ≡ false
no_float_items [] = refl
no_float_items (alarm ∷ alarms) = no_float_items alarms

pub no_float : (alarms : List Alarm) → has_float (report_data alarms) ≡ false
no_float alarms = rw (no_float_items alarms) refl

items_shallow : (alarms : List Alarm) → items_depth (items_of (map alarm_data alarms)) ≤ 1
items_shallow [] = omega arith
items_shallow (alarm ∷ alarms) = let rest = items_shallow alarms in omega arith

shallow : (alarms : List Alarm) → depth (report_data alarms) ≤ max_depth
shallow alarms = let rest = items_shallow alarms in omega arith

-- a text that is the compact one of a report's value
is_object : (alarms : List Alarm) (value : Data) (text : List ℕ) → value ≡ report_data alarms
    → (has_float value ≡ false → text ≡ compact_text value) → text ≡ report_object alarms
is_object alarms value text same written =
    written (ap has_float same ∙ no_float alarms) ∙ ap compact_text same ∙ report_text alarms

pub is_line : (alarms : List Alarm) (value : Data) (text line : List ℕ) → value ≡ report_data alarms
    → (has_float value ≡ false → text ≡ compact_text value) → line ≡ text ++ 10 ∷ [] → line ≡ json_text alarms
is_line alarms value text line same written ended =
    ended ∙ ap (λ t. t ++ 10 ∷ []) (is_object alarms value text same written)

pub is_read : (alarms : List Alarm) (value : Data) (text : List ℕ) → value ≡ report_data alarms
    → (has_float value ≡ false → text ≡ compact_text value) → (depth value ≤ max_depth → read text ≡ Some value)
    → read (report_object alarms) ≡ Some (report_data alarms)
is_read alarms value text same written back =
    let P : Data → Type 0 = λ d. depth d ≤ max_depth in
    ap read (sym (is_object alarms value text same written)) ∙ back (subst P (sym same) (shallow alarms)) ∙ ap Some same
