-- One more access is merged with those before it.
use Rattle.std.proofs.Common.{◌≡◌, ◌↔◌, ◌⊎◌, ℕ, zero, suc, ◌+◌, ◌<◌, refl, ap, sym, subst, ◌∙◌, inl, inr, Bool}
use Rattle.std.proofs.Common.{true, false, ◌||◌, bit_and, min, List, [], ◌∷◌, ◌++◌, length, get_or, take, arith}
use Rattle.std.specs.Prelude.{Contains}
use Rattle.std.specs.Int.{bit_at}
use Rattle.std.proofs.lemmas.Bool.{eqb-true, eq-eqb}
use Rattle.std.proofs.lemmas.List.{get_or_default}
use Rattle.std.proofs.lemmas.List.Elements.{Contains-append_left, Contains-push, Contains-push_cases}
use Rattle.std.proofs.lemmas.Nat.Bits.{bit_at_and, bit_at-lt}
use Rattle.mutex_configs.specs.Sets.{has}
use Rattle.access_races.proofs.Joins.{either}
use Rattle.access_groups.specs.declared.object_access.ObjectAccess.{ObjectAccess}
use Rattle.access_races.specs.Rising.{AreRising}
use Rattle.access_groups.specs.Order.{sort_key, IsBefore}
use Rattle.access_groups.specs.reading.Merging.{joined, IsAdded, Precedes}
use Rattle.access_groups.specs.reading.Merging.{IsMerged, AreMerged, HasRacing}
use Rattle.access_groups.specs.reading.Merging.IsAdded.{begins, joins, follows}
use Rattle.access_races.proofs.Rising.{none, first, cases, rising_push, rising_front, rising_last}
use Rattle.access_groups.proofs.Sorting.{is_before_trans, before_alike, not_alike}

-- ## Sets

both_one : (x y : ℕ) → x < 2 → y < 2 → min x y ≡ 1 → (x ≡ 1) × (y ≡ 1)
both_one x y l m e = (omega (arith, l, m, e), omega (arith, l, m, e))

min_one : (x y : ℕ) → x ≡ 1 → y ≡ 1 → min x y ≡ 1
min_one x y e f = omega (arith, e, f)

both_free : (a b m : ℕ) → (has (bit_and a b) m ≡ true) ↔ ((has a m ≡ true) × (has b m ≡ true))
both_free a b m = (
  λ h.
      let e : min (bit_at a m) (bit_at b m) ≡ 1 = sym (bit_at_and a b m) ∙ eqb-true (bit_at (bit_and a b) m) 1 h in
      let ones = both_one (bit_at a m) (bit_at b m) (bit_at-lt a m) (bit_at-lt b m) e in
      (eq-eqb (bit_at a m) 1 ones.0, eq-eqb (bit_at b m) 1 ones.1),
  λ h. eq-eqb (bit_at (bit_and a b) m) 1
      (bit_at_and a b m
      ∙ min_one (bit_at a m) (bit_at b m) (eqb-true (bit_at a m) 1 h.0) (eqb-true (bit_at b m) 1 h.1)),
)

some_of : (x y : Bool) → (x || y) ≡ true → (x ≡ true) ⊎ (y ≡ true)
some_of true y e = inl refl
some_of false y e = inr e

one_of : (x y : Bool) → (x ≡ true) ⊎ (y ≡ true) → (x || y) ≡ true
one_of true y e = refl
one_of false y (inl e) = absurd cc
one_of false y (inr e) = e

-- ## One more access

module _ (old now : List ObjectAccess) (this : ObjectAccess)
    (more : (x : ObjectAccess) → Contains now x ↔ (Contains old x ⊎ (this ≡ x))) where
  has_this : Contains now this
  has_this = (more this).1 (inr refl)

  has_old : (x : ObjectAccess) → Contains old x → Contains now x
  has_old x h = (more x).1 (inl h)

  -- what is alike no other than before
  kept : (e : ObjectAccess) → IsMerged old e → (sort_key this ≡ sort_key e → ⊥) → IsMerged now e
  kept e h differs = record {
    alike = record { one = h.alike.one; has_one = has_old h.alike.one h.alike.has_one; alike = h.alike.alike };
    free = λ m. (
      λ t f in_now same. either (λ o. (h.free m).0 t f o same) (λ s. absurd (differs (ap sort_key s ∙ same)))
          ((more f).0 in_now),
      λ all. (h.free m).1 (λ f in_old same. all f (has_old f in_old) same),
    );
    racing = (
      λ t. let r = h.racing.0 t in
          record { one = r.one; has_one = has_old r.one r.has_one; alike = r.alike; racing = r.racing },
      λ r. h.racing.1 (either
          (λ (o : Contains old r.one). record { one = r.one; has_one = o; alike = r.alike; racing = r.racing })
          (λ s. absurd (differs (ap sort_key s ∙ r.alike))) ((more r.one).0 r.has_one)),
    );
  }

  -- what is alike it too
  both : (e : ObjectAccess) → IsMerged old e → sort_key e ≡ sort_key this → IsMerged now (joined e this)
  both e h same = record {
    alike = record { one = h.alike.one; has_one = has_old h.alike.one h.alike.has_one; alike = h.alike.alike };
    free = λ m. (
      λ t f in_now alike.
          let b = (both_free e.free this.free m).0 t in
          either (λ o. (h.free m).0 b.0 f o alike) (λ s. subst (λ (z : ObjectAccess). has z.free m ≡ true) s b.1)
          ((more f).0 in_now),
      λ all. (both_free e.free this.free m).1 (
        (h.free m).1 (λ f in_old alike. all f (has_old f in_old) alike),
        all this has_this (sym same),
      ),
    );
    racing = (
      λ t. either (λ u. let r = h.racing.0 u in
          record { one = r.one; has_one = has_old r.one r.has_one; alike = r.alike; racing = r.racing })
          (λ u. record { one = this; has_one = has_this; alike = sym same; racing = u })
          (some_of e.racing this.racing t),
      λ r. one_of e.racing this.racing (either
          (λ (o : Contains old r.one). inl (h.racing.1
          (record { one = r.one; has_one = o; alike = r.alike; racing = r.racing })))
          (λ s. inr (subst (λ (z : ObjectAccess). z.racing ≡ true) (sym s) r.racing)) ((more r.one).0 r.has_one)),
    );
  }

  -- the first that is alike
  alone : ((x : ObjectAccess) → Contains old x → sort_key x ≡ sort_key this → ⊥) → IsMerged now this
  alone fresh = record {
    alike = record { one = this; has_one = has_this; alike = refl };
    free = λ m. (
      λ t f in_now same. either (λ o. absurd (fresh f o same))
          (λ s. subst (λ (z : ObjectAccess). has z.free m ≡ true) s t) ((more f).0 in_now),
      λ all. all this has_this refl,
    );
    racing = (
      λ t. record { one = this; has_one = has_this; alike = refl; racing = t },
      λ r. either (λ o. absurd (fresh r.one o r.alike))
          (λ s. subst (λ (z : ObjectAccess). z.racing ≡ true) (sym s) r.racing) ((more r.one).0 r.has_one),
    );
  }

  module _ (list : List ObjectAccess) (h : AreMerged old list)
      (after : (x : ObjectAccess) → Contains old x → Precedes x this) where
    begun : list ≡ [] → AreMerged now (this ∷ [])
    begun empty =
        let fresh : (x : ObjectAccess) → Contains old x → ⊥ = λ x o. (let f = h.all x o in
        none f.0 (subst (λ l. Contains l f.0) empty f.1)) in record {
          rising = (λ y c. absurd (none y c), tt);
          each = λ e c. either (λ s. subst (IsMerged now) s (alone (λ x o same. fresh x o)))
              (λ k. absurd (none e k)) (cases this e [] c);
          all = λ x c. either (λ o. absurd (fresh x o)) (λ s. (this, first this [], ap sort_key s)) ((more x).0 c);
        }

    module _ (front : List ObjectAccess) (last : ObjectAccess) (list-is : list ≡ front ++ last ∷ []) where
      abbrev both_parts : List ObjectAccess
      both_parts = front ++ last ∷ []

      rises : AreRising IsBefore both_parts
      rises = subst (AreRising IsBefore) list-is h.rising

      listed : (x : ObjectAccess) → Contains both_parts x → IsMerged old x
      listed x c = h.each x (subst (λ l. Contains l x) (sym list-is) c)

      in_front : (x : ObjectAccess) → Contains front x → Contains both_parts x
      in_front x c = Contains-append_left front (last ∷ []) x c

      found : (x : ObjectAccess) → Contains old x
          → (f : ObjectAccess) × Contains both_parts f × (sort_key f ≡ sort_key x)
      found x o = let f = h.all x o in (f.0, subst (λ l. Contains l f.0) list-is f.1, f.2)

      joined_last : sort_key last ≡ sort_key this → AreMerged now (front ++ joined last this ∷ [])
      joined_last same =
          let j = joined last this in
          let in_new : Contains (front ++ j ∷ []) j = Contains-push front j in
          let before : (x : ObjectAccess) → Contains front x → IsBefore x last = rising_last IsBefore front last rises in
          record {
            rising = rising_push IsBefore front j (rising_front IsBefore front last rises) (λ x c. before x c);
            each = λ e c. either
                (λ o. kept e (listed e (in_front e o)) (λ s. not_alike e last (before e o) (sym s ∙ sym same)))
                (λ s. subst (IsMerged now) s (both last (listed last (Contains-push front last)) same))
                (Contains-push_cases front j e c);
            all = λ x c. either
                (λ o. let f = found x o in either
                (λ (there : Contains front f.0). (f.0, Contains-append_left front (j ∷ []) f.0 there, f.2))
                (λ s. (j, in_new, ap sort_key s ∙ f.2)) (Contains-push_cases front last f.0 f.1))
                (λ s. (j, in_new, same ∙ ap sort_key s)) ((more x).0 c);
          }

      following : (sort_key last ≡ sort_key this → ⊥) → AreMerged now (both_parts ++ this ∷ [])
      following differs =
          let l = listed last (Contains-push front last) in
          let last_before : IsBefore last this = either (λ b. before_alike last l.alike.one this (sym l.alike.alike) b)
          (λ s. absurd (differs (sym l.alike.alike ∙ s))) (after l.alike.one l.alike.has_one) in
          let before : (x : ObjectAccess) → Contains both_parts x → IsBefore x this = λ x c. either
          (λ o. is_before_trans x last this (rising_last IsBefore front last rises x o) last_before)
          (λ s. subst (λ z. IsBefore z this) s last_before) (Contains-push_cases front last x c) in
          let fresh : (x : ObjectAccess) → Contains old x → sort_key x ≡ sort_key this → ⊥ = λ x o same. (let f = found x o in
          not_alike f.0 this (before f.0 f.1) (f.2 ∙ same)) in record {
            rising = rising_push IsBefore both_parts this rises before;
            each = λ e c. either (λ o. kept e (listed e o) (λ s. not_alike e this (before e o) (sym s)))
                (λ s. subst (IsMerged now) s (alone fresh)) (Contains-push_cases both_parts this e c);
            all = λ x c. either
                (λ o. let f = found x o in
                (f.0, Contains-append_left both_parts (this ∷ []) f.0 f.1, f.2))
                (λ s. (this, Contains-push both_parts this, ap sort_key s)) ((more x).0 c);
          }

    pub merged_more : (new : List ObjectAccess) → IsAdded list this new → AreMerged now new
    merged_more new (begins list-is new-is) = subst (AreMerged now) (sym new-is) (begun list-is)
    merged_more new (joins front last list-is same new-is) =
        subst (AreMerged now) (sym new-is) (joined_last front last list-is same)
    merged_more new (follows front last list-is differs new-is) =
        subst (AreMerged now) (sym new-is) (following front last list-is differs)

-- ## All of them

-- what stands in place of an access that there is not
abbrev pub no_access : ObjectAccess
no_access = record {
  place = record { line = 0; col = 0 };
  task = 0;
  stores = false;
  held = 0;
  free = 0;
  racing = false;
}

pub merged_none : (list : List ObjectAccess) → list ≡ [] → AreMerged [] list
merged_none list e = subst (AreMerged []) (sym e) (record {
  rising = tt;
  each = λ x c. absurd (none x c);
  all = λ x c. absurd (none x c);
})

-- the element with a number comes after those before it
pub after_front : (xs : List ObjectAccess) (i : ℕ) (d : ObjectAccess) → i < length xs → AreRising Precedes xs
    → (x : ObjectAccess) → Contains (take i xs) x → Precedes x (get_or xs i d)
after_front [] i d lt r x h = absurd (omega (arith, lt))
after_front (a ∷ xs) zero d lt r x h = absurd (none x h)
after_front (a ∷ xs) (suc i) d lt r x h =
    let within : i < length xs = omega (arith, lt) in
    either (λ e. subst (λ z. Precedes z (get_or xs i d)) e
    (r.0 (get_or xs i d) (i, within, get_or_default xs i (get_or xs i d) d within)))
    (λ more. after_front xs i d within r.1 x more) (cases a x (take i xs) h)

-- the same ones
pub merged_same : (given ranked list : List ObjectAccess)
    → ((e : ObjectAccess) → Contains ranked e ↔ Contains given e) → AreMerged ranked list → AreMerged given list
merged_same given ranked list same h = record {
  rising = h.rising;
  each = λ e c. let m = h.each e c in record {
    alike = record {
      one = m.alike.one;
      has_one = (same m.alike.one).0 m.alike.has_one;
      alike = m.alike.alike;
    };
    free = λ n. (
      λ t f g s. (m.free n).0 t f ((same f).1 g) s,
      λ all. (m.free n).1 (λ f g s. all f ((same f).0 g) s),
    );
    racing = (
      λ t. let r = m.racing.0 t in
          record { one = r.one; has_one = (same r.one).0 r.has_one; alike = r.alike; racing = r.racing },
      λ r. m.racing.1 (record { one = r.one; has_one = (same r.one).1 r.has_one; alike = r.alike; racing = r.racing }),
    );
  };
  all = λ e c. h.all e ((same e).1 c);
}

-- where one races, one of those that are merged does
pub racing_merged : (given list : List ObjectAccess) → AreMerged given list → HasRacing given → HasRacing list
racing_merged given list h r =
    let f = h.all r.one r.has_one in record {
      one = f.0;
      has_one = f.1;
      racing = (h.each f.0 f.1).racing.1
          (record { one = r.one; has_one = r.has_one; alike = sym f.2; racing = r.racing });
    }
