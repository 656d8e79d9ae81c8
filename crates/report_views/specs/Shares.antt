-- What is told of alarms, shared out among the findings, in whose order it stands.
use Rattle.std.specs.Prelude.{◌≡◌, ℕ, suc, Bool, false, ◌==◌, ◌&&◌, List, [], ◌∷◌, drop, take, sum, slice_get, Some}
use Rattle.std.specs.Prelude.{if◌then◌else◌}
use Rattle.tm_cint.specs.declared.Class.{Class}
use Rattle.tm_terms.specs.Alarms.{class_number}
use Rattle.tm_terms.specs.declared.places.Place.{Place}
use Rattle.report_reading.specs.Ways.{Way}
use Rattle.report_views.specs.declared.sentences.Rule.{Rule}
use Rattle.report_views.specs.declared.sentences.Rule.TheVariants.{Alarm, Wait, Dead, Assumption}
use Rattle.report_views.specs.declared.spots.Finding.{Finding}

-- where it stands, by the rule of its alarm
abbrev pub site_of : Way → Finding
site_of way = record { place = way.site; rule = Alarm way.class }

-- whether a rule is that of a class
abbrev pub is_rule_of : Class → Rule → Bool
is_rule_of class (Alarm other) = class_number class == class_number other
is_rule_of class Wait = false
is_rule_of class Dead = false
is_rule_of class (Assumption kind) = false

-- whether it is told of this finding: the alarm of its class at its place
abbrev pub is_of : Finding → Way → Bool
is_of finding way =
    (way.place.line == finding.place.line)
    && ((way.place.col == finding.place.col) && is_rule_of way.class finding.rule)

-- how many ways in front are of a finding
abbrev pub leading : Finding → List Way → ℕ
leading finding [] = 0
leading finding (way ∷ ways) = if is_of finding way then suc (leading finding ways) else 0

-- how many ways each finding has: those that stand in front when its turn comes
abbrev pub shares : List Finding → List Way → List ℕ
shares [] ways = []
shares (finding ∷ findings) ways =
    let count = leading finding ways in
    count ∷ shares findings (drop count ways)

-- the items, cut into lists of these lengths
abbrev pub cut : {A : Type 0} → List ℕ → List A → List (List A)
cut [] items = []
cut (count ∷ counts) items = take count items ∷ cut counts (drop count items)

-- a way is left when each finding has had its turn, and it is told of an alarm at this place
pub record IsOfNone (findings : List Finding) (ways : List Way) (place : Place) : Type 0 where
  pub way : Way
  pub left : slice_get ways (sum (shares findings ways)) ≡ Some way
  pub placed : way.place ≡ place
