-- What the front of the accesses gives with one more.
use Rattle.std.proofs.Common.{◌≡◌, ◌↔◌, ◌⊎◌, ℕ, ◌+◌, ◌<◌, refl, ap, sym, subst, ◌∙◌, inl, inr, List, length, take}
use Rattle.std.proofs.Common.{get_or}
use Rattle.std.specs.declared.vec.Vec.{Vec}
use Rattle.tm_cint.specs.declared.Class.TheVariants.{Race}
use Rattle.tm_terms.specs.declared.alarms.Alarm.{Alarm}
use Rattle.access_races.specs.declared.accesses.Way.{Way}
use Rattle.access_races.specs.declared.accesses.Access.{Access}
use Rattle.access_races.specs.reading.Ways.{no_access, list_at, IsWayTo, IsRacingIn, IsAlarmIn}
use Rattle.access_races.proofs.Joins.{either, front_more}

module _ (xs : List Access) (i : ℕ) (lt : i < length xs) where
  abbrev this : Access
  this = get_or xs i no_access

  pub ways_more : (c : ℕ) (w : Way) → IsWayTo (take (i + 1) xs) c w
      ↔ (IsWayTo (take i xs) c w ⊎ ((c ≡ this.cell) × (w ≡ this.way)))
  ways_more c w = (
    λ h. either (λ before. inl (record { access = h.access; has = before; cell = h.cell; way = h.way }))
        (λ e. inr (sym h.cell ∙ sym (ap (λ (z : Access). z.cell) e), sym h.way ∙ sym (ap (λ (z : Access). z.way) e)))
        ((front_more xs i no_access lt h.access).0 h.has),
    λ h. either (λ (o : IsWayTo (take i xs) c w). record {
      access = o.access;
      has = (front_more xs i no_access lt o.access).1 (inl o.has);
      cell = o.cell;
      way = o.way;
    })
        (λ e. record {
          access = this;
          has = (front_more xs i no_access lt this).1 (inr refl);
          cell = sym e.0;
          way = sym e.1;
        }) h,
  )

  module _ {A : Type 0} (ways : List (Vec Way A)) (a : Alarm) where
    earlier : IsAlarmIn ways (take i xs) a → IsAlarmIn ways (take (i + 1) xs) a
    earlier o = record {
      access = o.access;
      has = (front_more xs i no_access lt o.access).1 (inl o.has);
      races = o.races;
      is = o.is;
    }

    pub alarms_more : IsRacingIn (list_at ways this.cell) this.way → IsAlarmIn ways (take (i + 1) xs) a
        ↔ (IsAlarmIn ways (take i xs) a ⊎ (a ≡ record { place = this.place; class = Race }))
    alarms_more races = (
      λ h. either (λ before. inl (record { access = h.access; has = before; races = h.races; is = h.is }))
          (λ e. inr (h.is ∙ sym (ap (λ (z : Access). record { place = z.place; class = Race }) e)))
          ((front_more xs i no_access lt h.access).0 h.has),
      λ h. either earlier
          (λ e. record {
            access = this;
            has = (front_more xs i no_access lt this).1 (inr refl);
            races = races;
            is = e;
          }) h,
    )

    pub alarms_same : (IsRacingIn (list_at ways this.cell) this.way → ⊥) → IsAlarmIn ways (take (i + 1) xs) a
        ↔ IsAlarmIn ways (take i xs) a
    alarms_same not_racing = (
      λ h. either (λ before. record { access = h.access; has = before; races = h.races; is = h.is })
          (λ e. absurd (not_racing
          (subst (λ (z : Access). IsRacingIn (list_at ways z.cell) z.way) (sym e) h.races)))
          ((front_more xs i no_access lt h.access).0 h.has),
      earlier,
    )
