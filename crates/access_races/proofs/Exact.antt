-- The report is exactly the alarms and those of accesses that race.
use Rattle.std.proofs.Common.{◌≡◌, ◌↔◌, ◌⊎◌, ℕ, refl, ap, sym, subst, inl, inr, true, List}
use Rattle.std.specs.Prelude.{Contains, IfOk}
use Rattle.std.specs.declared.result.Result.{Result}
use Rattle.std.specs.declared.result.Result.TheVariants.{Ok, Err}
use Rattle.std.specs.declared.vec.Vec.{Vec}
use Rattle.tm_cint.specs.declared.Class.TheVariants.{Race}
use Rattle.tm_terms.specs.declared.alarms.Alarm.{Alarm}
use Rattle.tm_terms.specs.declared.places.Place.{Place}
use Rattle.tm_terms.specs.Alarms.{IsStrictlySorted}
use Rattle.access_races.specs.declared.accesses.Way.{Way}
use Rattle.access_races.specs.declared.accesses.Access.{Access}
use Rattle.access_races.specs.Races.{do_race, IsRaceAlarm, IsReportOf}
use Rattle.access_races.specs.reading.Ways.{list_at, IsWayTo, IsAlarmIn}
use Rattle.access_races.proofs.Joins.{either}

-- two facts of an answer
pub both_ok : {X E : Type 0} (P Q S : X → Type 0) → ((x : X) → P x → Q x → S x) → (r : Result X E) → IfOk r P
    → IfOk r Q → IfOk r S
both_ok P Q S f (Ok x) p q = f x p q
both_ok P Q S f (Err e) p q = tt

alarm_of : (a : Alarm) (at : Place) → a.class ≡ Race → at ≡ a.place → a ≡ record { place = at; class = Race }
alarm_of a at class place = λ i. record { place = (sym place) i; class = class i }

module _ {A : Type 0} (accesses : List Access) (ways : List (Vec Way A))
    (are : (c : ℕ) (w : Way) → Contains (list_at ways c) w ↔ IsWayTo accesses c w) where
  raced : (a : Alarm) → IsAlarmIn ways accesses a → IsRaceAlarm accesses a
  raced a h =
      let other = (are h.access.cell h.races.other).0 h.races.has in record {
        class = ap (λ (z : Alarm). z.class) h.is;
        race = record {
          one = h.access;
          other = other.access;
          has_one = h.has;
          has_other = other.has;
          cell = other.cell;
          races = subst (λ w. do_race h.access.way w ≡ true) (sym other.way) h.races.races;
          placed = sym (ap (λ (z : Alarm). z.place) h.is);
        };
      }

  races : (a : Alarm) → IsRaceAlarm accesses a → IsAlarmIn ways accesses a
  races a h =
      let r = h.race in record {
        access = r.one;
        has = r.has_one;
        races = record {
          other = r.other.way;
          has = (are r.one.cell r.other.way).1
              (record { access = r.other; has = r.has_other; cell = r.cell; way = refl });
          races = r.races;
        };
        is = alarm_of a r.one.place h.class r.placed;
      }

  pub exact_report : (given pushed report : List Alarm)
      → ((a : Alarm) → Contains pushed a ↔ (Contains given a ⊎ IsAlarmIn ways accesses a))
      → IsStrictlySorted report → ((a : Alarm) → Contains report a ↔ Contains pushed a)
      → IsReportOf accesses given report
  exact_report given pushed report found sorted same = record {
    sorted = sorted;
    exact = λ a. (
      λ h. either (λ o. inl o) (λ r. inr (raced a r)) ((found a).0 ((same a).0 h)),
      λ h. (same a).1 ((found a).1 (either (λ o. inl o) (λ r. inr (races a r)) h)),
    );
  }
