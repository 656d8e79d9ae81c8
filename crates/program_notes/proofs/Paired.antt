-- The alarms of a report that are not races are those that have contexts, in the same order.
use Rattle.std.proofs.Common.{◌≡◌, ◌↔◌, ◌⊎◌, zero, suc, refl, ap, sym, subst, ◌∙◌, inl, inr, Bool, true, false, cond}
use Rattle.std.proofs.Common.{List, [], ◌∷◌, map, arith}
use Rattle.std.specs.Prelude.{Contains}
use Rattle.tm_cint.specs.declared.Class.{Class}
use Rattle.tm_cint.specs.declared.Class.TheVariants.{Overflow, Div, Shift, Index, Pointer, Deref, Lock, Race}
use Rattle.tm_terms.specs.declared.alarms.Alarm.{Alarm}
use Rattle.tm_terms.specs.declared.places.Place.{Place}
use Rattle.tm_terms.specs.Alarms.{AlarmBefore, IsStrictlySorted}
use Rattle.alarm_contexts.specs.declared.alarm_context.AlarmContexts.{AlarmContexts}
use Rattle.alarm_contexts.specs.Contexts.{alarm_of, HasAlarm}
use Rattle.program_reports.proofs.Lists.{before_trans, never_before, tail_sorted, first_before, same_first}
use Rattle.note_details.specs.Details.{is_race_class}
use Rattle.program_notes.specs.AlarmTexts.{is_race, other_alarms}

either : {A B C : Type 0} → (A → C) → (B → C) → A ⊎ B → C
either f g (inl a) = f a
either f g (inr b) = g b

-- ## Membership

module _ {X : Type 0} where
  none : (x : X) → Contains [] x → ⊥
  none x (k, lt, e) = absurd (omega (arith, lt))

  first : (x : X) (xs : List X) → Contains (x ∷ xs) x
  first x xs = (zero, omega arith, refl)

  later : (x y : X) (xs : List X) → Contains xs y → Contains (x ∷ xs) y
  later x y xs (k, lt, e) = (suc k, omega (arith, lt), e)

  cases : (x y : X) (xs : List X) → Contains (x ∷ xs) y → (x ≡ y) ⊎ Contains xs y
  cases x y xs (zero, lt, e) = inl e
  cases x y xs (suc k, lt, e) = inr (k, omega (arith, lt), e)

-- ## Lists

-- a list has exactly the alarms of a report that are not races
abbrev AreOthers : List Alarm → List Alarm → Type 0
AreOthers one report = (a : Alarm)
    → (Contains one a → Contains report a × (is_race a ≡ false))
    × (Contains report a → is_race a ≡ false → Contains one a)

-- what stands behind the first of a list is not the first
not_first : (o a : Alarm) (one : List Alarm) → IsStrictlySorted (o ∷ one) → Contains one a → o ≡ a → ⊥
not_first o a one s c e = never_before o (subst (AlarmBefore o) (sym e) (first_before o a one s c))

behind : (o r : Alarm) (one rest : List Alarm) → IsStrictlySorted (o ∷ one) → IsStrictlySorted (r ∷ rest) → o ≡ r
    → AreOthers (o ∷ one) (r ∷ rest) → AreOthers one rest
behind o r one rest s t e are a = (
  λ c.
      let h = (are a).0 (later o a one c) in
      (either (λ same. absurd (not_first o a one s c (e ∙ same))) (λ more. more) (cases r a rest h.0), h.1),
  λ c other.
      either (λ same. absurd (not_first r a rest t c (sym e ∙ same))) (λ more. more)
      (cases o a one ((are a).1 (later r a rest c) other)),
)

false_true : {A : Type 0} → false ≡ true → A
false_true e = absurd (cc)

without_race : (r : Alarm) (one rest : List Alarm) → is_race r ≡ true → AreOthers one (r ∷ rest)
    → AreOthers one rest
without_race r one rest race are a = (
  λ c.
      let h = (are a).0 c in
      (either (λ same. false_true (sym h.1 ∙ sym (ap is_race same) ∙ race)) (λ more. more) (cases r a rest h.0), h.1),
  λ c other. (are a).1 (later r a rest c) other,
)

-- the first of a report, of which it is known whether it is a race, and those behind it
with_first : (one : List Alarm) (r : Alarm) (rest : List Alarm) (race : Bool) → is_race r ≡ race
    → IsStrictlySorted one → IsStrictlySorted (r ∷ rest) → AreOthers one (r ∷ rest)
    → ((two : List Alarm) → IsStrictlySorted two → AreOthers two rest → two ≡ other_alarms rest)
    → one ≡ cond race (other_alarms rest) (r ∷ other_alarms rest)
with_first one r rest true e s t are behind_it = behind_it one s (without_race r one rest e are)
with_first [] r rest false e s t are behind_it = absurd (none r ((are r).1 (first r rest) e))
with_first (o ∷ one) r rest false e s t are behind_it =
    let same = same_first o r one rest s t ((are o).0 (first o one)).0 ((are r).1 (first r rest) e) in
    let more = behind_it one (tail_sorted o one s) (behind o r one rest s t same are) in
    λ i. same i ∷ more i

pub same_others : (one report : List Alarm) → IsStrictlySorted one → IsStrictlySorted report → AreOthers one report
    → one ≡ other_alarms report
same_others [] [] s t are = refl
same_others (o ∷ one) [] s t are = absurd (none o ((are o).0 (first o one)).0)
same_others one (r ∷ rest) s t are =
    with_first one r rest (is_race r) refl s t are
    (λ two u v. same_others two rest u (tail_sorted r rest t) v)

-- ## Contexts

in_alarms : (alarms : List AlarmContexts) (a : Alarm) → Contains (map alarm_of alarms) a
    → HasAlarm alarms a.place a.class
in_alarms [] a c = absurd (none a c)
in_alarms (x ∷ alarms) a c =
    either (λ e. record { one = x; has = first x alarms; is = e })
    (λ more. let h = in_alarms alarms a more in record { one = h.one; has = later x h.one alarms h.has; is = h.is })
    (cases (alarm_of x) a (map alarm_of alarms) c)

member : (alarms : List AlarmContexts) (x : AlarmContexts) → Contains alarms x
    → Contains (map alarm_of alarms) (alarm_of x)
member [] x c = absurd (none x c)
member (y ∷ alarms) x c =
    either (λ e. subst (λ z. Contains (map alarm_of (y ∷ alarms)) (alarm_of z)) e
    (first (alarm_of y) (map alarm_of alarms)))
    (λ more. later (alarm_of y) (alarm_of x) (map alarm_of alarms) (member alarms x more)) (cases y x alarms c)

from_alarms : (alarms : List AlarmContexts) (a : Alarm) → HasAlarm alarms a.place a.class
    → Contains (map alarm_of alarms) a
from_alarms alarms a h = subst (Contains (map alarm_of alarms)) h.is (member alarms h.one h.has)

is_other : (class : Class) → (class ≡ Race → ⊥) → is_race_class class ≡ false
is_other Overflow other = refl
is_other Div other = refl
is_other Shift other = refl
is_other Index other = refl
is_other Pointer other = refl
is_other Deref other = refl
is_other Lock other = refl
is_other Race other = absurd (other refl)

no_race : (class : Class) → is_race_class class ≡ false → class ≡ Race → ⊥
no_race class other e = false_true (sym other ∙ ap is_race_class e)

module _ (alarms : List AlarmContexts) (report : List Alarm) (sorted : IsStrictlySorted (map alarm_of alarms))
    (ordered : IsStrictlySorted report) (same : (place : Place) (class : Class) → (class ≡ Race → ⊥)
    → Contains report (record { place = place; class = class }) ↔ HasAlarm alarms place class)
    (races : (place : Place) → HasAlarm alarms place Race → ⊥) where
  pub paired : map alarm_of alarms ≡ other_alarms report
  paired =
      same_others (map alarm_of alarms) report sorted ordered (λ a. (
        λ c.
            let h = in_alarms alarms a c in
            let other : a.class ≡ Race → ⊥ = λ e. races a.place (subst (HasAlarm alarms a.place) e h) in
            ((same a.place a.class other).1 h, is_other a.class other),
        λ c other. from_alarms alarms a ((same a.place a.class (no_race a.class other)).0 c),
      ))
