-- The places that are added, with one more.
use Rattle.std.proofs.Common.{◌≡◌, ◌↔◌, ◌⊎◌, ℕ, ◌+◌, ◌<◌, ap, sym, ◌∙◌, inl, inr, Bool, true, List, []}
use Rattle.std.proofs.Common.{length, get_or}
use Rattle.std.proofs.Common.{take}
use Rattle.tm_terms.specs.declared.places.Place.{Place}
use Rattle.text_choices.specs.Choices.{Adds, OfKind}
use Rattle.text_choices.specs.declared.kinds.Choice.{Choice}
use Rattle.text_choices.specs.declared.kinds.Kind.TheVariants as Kinds
use Rattle.access_races.specs.reading.Ways.{HasOne}
use Rattle.access_races.proofs.Joins.{either, joined, one_more}
use Rattle.operand_orders.proofs.Elements.{has_none, nothing_more}

module _ {X : Type 0} (place : X → Place) (Is : X → Type 0) where
  -- a place of one of these of which it holds
  abbrev pub IsPlaceOf : List X → Place → Type 0
  IsPlaceOf xs at = HasOne (λ (x : X). (place x ≡ at) × Is x) xs

  pub places_none : (old : List Choice) → Adds old old (OfKind Kinds.Order (IsPlaceOf []))
  places_none old = λ c. nothing_more (λ h. has_none (λ (x : X). (place x ≡ c.place) × Is x) h.1)

  pub places_more : (xs : List X) (i : ℕ) (d : X) → i < length xs → (old now new : List Choice)
      → Adds old now (OfKind Kinds.Order (IsPlaceOf (take i xs))) → (is : Bool) → ((is ≡ true) ↔ Is (get_or xs i d))
      → (added : Choice) → added ≡ record { place = place (get_or xs i d); kind = Kinds.Order }
      → Adds now new (λ c. (is ≡ true) × (c ≡ added)) → Adds old new (OfKind Kinds.Order (IsPlaceOf (take (i + 1) xs)))
  places_more xs i d lt old now new so_far is exact added added-is more = λ c. joined (more c) (so_far c) (step c)
    where
      step : (c : Choice) → OfKind Kinds.Order (IsPlaceOf (take (i + 1) xs)) c
          ↔ (OfKind Kinds.Order (IsPlaceOf (take i xs)) c ⊎ ((is ≡ true) × (c ≡ added)))
      step c =
          let one = one_more (λ (x : X). (place x ≡ c.place) × Is x) xs i d lt in (
            λ h. either (λ o. inl (h.0, o))
                (λ (k : (place (get_or xs i d) ≡ c.place) × Is (get_or xs i d)). inr (
                  exact.1 k.1,
                  (λ j. record { place = (sym k.0) j; kind = h.0 j }) ∙ sym added-is,
                )) (one.0 h.1),
            λ h. either (λ (o : OfKind Kinds.Order (IsPlaceOf (take i xs)) c). (o.0, one.1 (inl o.1)))
                (λ (k : (is ≡ true) × (c ≡ added)). let same = k.1 ∙ added-is in (
                  ap (λ (e : Choice). e.kind) same,
                  one.1 (inr (sym (ap (λ (e : Choice). e.place) same), exact.0 k.0)),
                )) h,
          )

-- three kinds of places, one after another
pub all_places : {A B C D : Choice → Type 0} (old one two three : List Choice) → Adds old one A → Adds one two B
    → Adds two three C → ((c : Choice) → ((A c ⊎ B c) ⊎ C c) ↔ D c) → Adds old three D
all_places {A} {B} {C} {D} old one two three a b c same = λ x. (
  λ h. either
      (λ h2. either (λ h1. either (λ o. inl o) (λ k. inr ((same x).0 (inl (inl k)))) ((a x).0 h1))
      (λ k. inr ((same x).0 (inl (inr k)))) ((b x).0 h2)) (λ k. inr ((same x).0 (inr k))) ((c x).0 h),
  λ h. either (λ o. (c x).1 (inl ((b x).1 (inl ((a x).1 (inl o))))))
      (λ d. either
      (λ ab. either (λ k. (c x).1 (inl ((b x).1 (inl ((a x).1 (inr k))))))
      (λ k. (c x).1 (inl ((b x).1 (inr k)))) ab) (λ k. (c x).1 (inr k)) ((same x).1 d)) h,
)

-- places of three kinds, as choices
pub kinds_is : (A B C D : Place → Type 0) → ((place : Place) → ((A place ⊎ B place) ⊎ C place) ↔ D place)
    → (c : Choice) → ((OfKind Kinds.Order A c ⊎ OfKind Kinds.Order B c) ⊎ OfKind Kinds.Order C c)
    ↔ OfKind Kinds.Order D c
kinds_is A B C D same c = (
  λ h. either
      (λ ab. either (λ (k : OfKind Kinds.Order A c). (k.0, (same c.place).0 (inl (inl k.1))))
      (λ (k : OfKind Kinds.Order B c). (k.0, (same c.place).0 (inl (inr k.1)))) ab)
      (λ (k : OfKind Kinds.Order C c). (k.0, (same c.place).0 (inr k.1))) h,
  λ d. either
      (λ ab. inl (either (λ (k : A c.place). inl (d.0, k)) (λ (k : B c.place). inr (d.0, k)) ab))
      (λ (k : C c.place). inr (d.0, k)) ((same c.place).1 d.1),
)
