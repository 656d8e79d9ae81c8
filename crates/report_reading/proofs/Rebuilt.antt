-- The value of a report has its alarms, and no other report has that value.
use Rattle.std.proofs.Common.{◌≡◌, ℕ, ◌<◌, ◌≤◌, ◌^◌, ◌∙◌, Bool, List, [], ◌∷◌, ◌++◌, length, map, refl, sym, ap, subst, Option, Some, None, lt-ltb, false, true}
use Rattle.std.specs.Prelude.{codes, option_and_then, option_map, if◌then◌else◌, IsTrue, ◌↔◌, MatchOption, bytes_eq, IfOk, Result, Ok, Err}
use Rattle.std.proofs.lemmas.Option.{same_Some}
use Rattle.std.proofs.lemmas.List.{append_cancel_right}
use Rattle.std.proofs.lemmas.Slice.Eq.{bytes_eq-Decides}
use Rattle.serde_json.specs.Data.{Data, depth}
use Rattle.serde_json.specs.Read.{max_depth, read}
use Rattle.serde_json.specs.View.{items_of}
use Rattle.serde_json.specs.Written.{compact_text, has_float}
use Rattle.serde_json.proofs.OnLiterals.{serde_json_on_literals}
use Rattle.tm_cint.specs.declared.Class.{Class}
use Rattle.tm_cint.specs.declared.Class.TheVariants.{Overflow, Div, Shift, Index, Pointer, Deref, Lock, Race}
use Rattle.tm_terms.specs.declared.alarms.Alarm.{Alarm}
use Rattle.tm_terms.specs.Texts.{class_text}
use Rattle.report_json.specs.JsonReports.{alarm_data, json_text, report_data, report_object}
use Rattle.report_json.proofs.JsonTexts.{no_float, report_text}
use Rattle.report_reading.specs.Reports.{HavePlaces, IsNoReport}
use Rattle.report_reading.specs.reading.Found.{alarm_in, alarm_of, alarms_in, alarms_of, before, class_of, if_small, items_in, list_of}

-- ## What the value of a report has

same_class : (k : Class) → class_of (class_text k) ≡ Some k
same_class Overflow = refl
same_class Div = refl
same_class Shift = refl
same_class Index = refl
same_class Pointer = refl
same_class Deref = refl
same_class Lock = refl
same_class Race = refl

small : (n : ℕ) → n < 2 ^ 32 → if_small n ≡ Some n
small n h = ap (λ b. if b then Some n else None) (lt-ltb n (2 ^ 32) h)

parts_found : (alarm : Alarm) → (alarm.place.line < 2 ^ 32) × (alarm.place.col < 2 ^ 32)
    → alarm_of (class_of (class_text alarm.class)) (if_small alarm.place.col) (if_small alarm.place.line) ≡ Some alarm
parts_found alarm here =
    ap (λ k. alarm_of k (if_small alarm.place.col) (if_small alarm.place.line)) (same_class alarm.class)
    ∙ ap (λ c. alarm_of (Some alarm.class) c (if_small alarm.place.line)) (small alarm.place.col here.1)
    ∙ ap (λ l. alarm_of (Some alarm.class) (Some alarm.place.col) l) (small alarm.place.line here.0)

alarm_found : (alarm : Alarm) → (alarm.place.line < 2 ^ 32) × (alarm.place.col < 2 ^ 32) → alarm_in (alarm_data alarm) ≡ Some alarm
unfolding serde_json_on_literals
alarm_found alarm here = parts_found alarm here

alarms_found : (alarms : List Alarm) → HavePlaces alarms → alarms_of (list_of (items_of (map alarm_data alarms))) ≡ Some alarms
alarms_found [] here = refl
alarms_found (alarm ∷ alarms) here =
    ap (λ found. before found (alarms_of (list_of (items_of (map alarm_data alarms))))) (alarm_found alarm here.0)
    ∙ ap (λ rest. before (Some alarm) rest) (alarms_found alarms here.1)

report_found : (alarms : List Alarm) → HavePlaces alarms → alarms_in (report_data alarms) ≡ Some alarms
unfolding serde_json_on_literals
report_found alarms here = alarms_found alarms here

-- ## Which value is that of a report

unlike : (value : Data) (found : Option (List Alarm)) (others : List Alarm)
    → MatchOption found (Unit {0}) (λ alarms. value ≡ report_data alarms → ⊥) → value ≡ report_data others → found ≡ Some others → ⊥
unlike value None others other e is = cc
unlike value (Some alarms) others other e is = other (e ∙ ap report_data (sym (same_Some alarms others is)))

-- a value that has no alarms, or others than its report would have
pub no_report : (value : Data) (found : Option (List Alarm)) → found ≡ alarms_in value
    → MatchOption found (Unit {0}) (λ alarms. value ≡ report_data alarms → ⊥) → IsNoReport value
no_report value found has other =
    λ others here few e. unlike value found others other e (has ∙ ap alarms_in e ∙ report_found others here)

-- a value is that of a report where its text, as a line, is that of the report
pub is_same : (value : Data) (alarms : List Alarm) (written pushed line : List ℕ) (same : Bool) → depth value ≤ max_depth
    → (has_float value ≡ false → written ≡ compact_text value) → (depth value ≤ max_depth → read written ≡ Some value)
    → pushed ≡ written ++ 10 ∷ [] → line ≡ json_text alarms → read (report_object alarms) ≡ Some (report_data alarms)
    → same ≡ bytes_eq pushed line → IsTrue same ↔ (value ≡ report_data alarms)
is_same value alarms written pushed line same flat text back ended is_line read_back test = (
  (λ t.
      let equal : pushed ≡ line = (bytes_eq-Decides pushed line).0 (sym test ∙ t) in
      let texts : written ≡ report_object alarms =
      append_cancel_right written (report_object alarms) (10 ∷ []) (sym ended ∙ equal ∙ is_line) in
      same_Some value (report_data alarms) (sym (back flat) ∙ ap read texts ∙ read_back)),
  (λ e.
      let texts : written ≡ report_object alarms =
      text (ap has_float e ∙ no_float alarms) ∙ ap compact_text e ∙ report_text alarms in
      test ∙ (bytes_eq-Decides pushed line).1 (ended ∙ ap (λ t. t ++ 10 ∷ []) texts ∙ sym is_line)),
)

-- the test whether a value is that of a report says no
pub other_by : (value : Data) (alarms tested : List Alarm) (same : Bool) → IsTrue same ↔ (value ≡ report_data tested)
    → tested ≡ alarms → same ≡ false → value ≡ report_data alarms → ⊥
other_by value alarms tested same decides is no_more e =
    let yes : IsTrue same = decides.1 (e ∙ ap report_data (sym is)) in cc

listed : (values : List Data) → list_of (items_of values) ≡ values
listed [] = refl
listed (value ∷ values) = ap (λ rest. value ∷ rest) (listed values)

-- the alarms of the items that a value has
pub found_in : (value : Data) (values : List Data) (found : Option (List Alarm)) → Some (items_of values) ≡ items_in value
    → found ≡ alarms_of values → found ≡ alarms_in value
found_in value values found has e =
    e ∙ ap alarms_of (sym (listed values)) ∙ ap (option_and_then (λ items. alarms_of (list_of items))) has

pub if_ok_by : {T E : Type 0} (P Q : T → Type 0) (r : Result T E) → IfOk r P → ((x : T) → P x → Q x) → IfOk r Q
if_ok_by P Q (Ok x) p f = f x p
if_ok_by P Q (Err e) p f = tt
