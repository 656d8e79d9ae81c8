-- A value is that of one report.
use Rattle.std.proofs.Common.{◌≡◌, ℕ, ◌+◌, ◌*◌, ◌==◌, List, [], ◌∷◌, cond, get_or, map, refl, ap, sym, ◌∙◌}
use Rattle.tm_terms.specs.tm_cint.declared.Class.{Class}
use Rattle.tm_terms.specs.tm_cint.declared.Class.TheVariants.{Overflow, Div, Shift, Index, Pointer, Deref, Lock, Race}
use Rattle.serde_json.specs.View.{items_of}
use Rattle.tm_terms.specs.declared.alarms.Alarm.{Alarm}
use Rattle.tm_terms.specs.Texts.{class_text}
use Rattle.report_json.specs.JsonReports.{alarm_data}
use Rattle.report_json.specs.Laws.{OneReport}

-- a class by the first two letters of its word
abbrev class_by : ℕ → Class
class_by key =
    cond (key == 244) Overflow (cond (key == 209) Div (cond (key == 238) Shift (cond (key == 224) Index
    (cond (key == 239) Pointer (cond (key == 205) Deref (cond (key == 231) Lock Race))))))

abbrev class_of : List ℕ → Class
class_of text = class_by (2 * get_or text 0 0 + get_or text 1 0)

class_of-class_text : (class : Class) → class_of (class_text class) ≡ class
class_of-class_text Overflow = refl
class_of-class_text Div = refl
class_of-class_text Shift = refl
class_of-class_text Index = refl
class_of-class_text Pointer = refl
class_of-class_text Deref = refl
class_of-class_text Lock = refl
class_of-class_text Race = refl

same_class : (class other : Class) → class_text class ≡ class_text other → class ≡ other
same_class class other same = sym (class_of-class_text class) ∙ ap class_of same ∙ class_of-class_text other

abbrev alarm_of : Class → ℕ → ℕ → Alarm
alarm_of class line col = record { place = record { line = line; col = col }; class = class }

same_alarm : (alarm other : Alarm) → alarm_data alarm ≡ alarm_data other → alarm ≡ other
same_alarm alarm other same =
    let classes : class_text alarm.class ≡ class_text other.class = cc in
    let cols : alarm.place.col ≡ other.place.col = cc in
    let lines : alarm.place.line ≡ other.place.line = cc in
    ap (λ class. alarm_of class alarm.place.line alarm.place.col) (same_class alarm.class other.class classes)
    ∙ ap (λ line. alarm_of other.class line alarm.place.col) lines
    ∙ ap (λ col. alarm_of other.class other.place.line col) cols

same_alarms : (alarms others : List Alarm) → items_of (map alarm_data alarms) ≡ items_of (map alarm_data others) → alarms ≡ others
same_alarms [] [] same = refl
same_alarms [] (other ∷ others) same = cc
same_alarms (alarm ∷ alarms) [] same = cc
same_alarms (alarm ∷ alarms) (other ∷ others) same =
    let first : alarm ≡ other = same_alarm alarm other (cc) in
    let rest : alarms ≡ others = same_alarms alarms others (cc) in
    cc

pub one_report : OneReport
one_report alarms others same = same_alarms alarms others (cc)
