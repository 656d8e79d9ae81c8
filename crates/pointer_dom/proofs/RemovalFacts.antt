-- Sets without one pointer, object by object.
use Rattle.std.proofs.Common.{◌≡◌, ◌≢◌, ℕ, Option, Some, None, Bool, false, ℤ, pos, nat_abs, ◌≤ℤ◌, refl, sym, ap, subst, ◌∙◌, arith}
use Rattle.std.proofs.lemmas.Int.{ints}
use Rattle.std.specs.FinMap as map
use Rattle.strided_dom.specs.Progression.{Progression, empty, Has, IsExactly, IsHull}
use Rattle.strided_dom.specs.Combinations.{IsAnother}
use Rattle.strided_dom.proofs.Members.{not_in_empty}
use Rattle.strided_dom.proofs.Spans.{exactly_same}
use Rattle.tm_lattice.specs.Tables.{Table, IsEntry}
use Rattle.pointer_dom.specs.Offset.{IsOffset, IsOffsetAmong}
use Rattle.pointer_dom.specs.OffsetSets.{OffsetSet, IsOffsetSet, HasNoOffset, IsOffsetsOf, no_offset}
use Rattle.pointer_dom.specs.Pointer.{Pointer, null, invalid, to}
use Rattle.pointer_dom.specs.PointerSets.{Pointers, IsPointers, offsets_or_none, offsets_at}
use Rattle.pointer_dom.specs.Advances.{IsInHull, IsGiven}
use Rattle.pointer_dom.specs.Selections.{IsOffsetTo, IsHullOfPointers, IsOtherPointer, IsLeft, IsOtherOffset}
use Rattle.pointer_dom.proofs.AdvanceFacts.{hull_weaken, in_hull, from_hull}
use Rattle.pointer_dom.proofs.EqualityFacts.{no_two}

-- what all of a set has
hull_of_all : (P : ℤ → Type 0) (s : Progression) → ((v : ℤ) → P v → Has s v) → ((v : ℤ) → Has s v → P v) → IsExactly (IsInHull P) s
hull_of_all P s inside all = record { sound = λ v m t k. k v (all v m); complete = λ v p. p s inside }

pub never_left : (object offset key : ℕ) (v : ℤ) → IsOtherOffset object offset key no_offset v → ⊥
never_left object offset key v p = not_in_empty v (p empty (λ w q. q.0))

pub left_elsewhere : (object offset key : ℕ) (o : OffsetSet) → IsOffsetSet o → key ≢ object → IsOffsetsOf o.size (IsOtherOffset object offset key o) o
left_elsewhere object offset key o o-is differ = record {
  offsets = hull_of_all (IsLeft object offset key o) o.offsets (λ v m. m.0) (λ v m. (m, λ e. absurd (differ e)));
  some = λ _. refl;
  none = o-is.none;
}

pub left_here : (object offset key size : ℕ) (o r : OffsetSet) (s t : Progression) (w : ℤ) → IsOffsetSet o → key ≡ object → size ≡ o.size → s ≡ o.offsets → w ≡ pos offset → IsHull (IsAnother s w) t → IsOffsetsOf size (IsOffsetAmong size t) r → IsOffsetsOf o.size (IsOtherOffset object offset key o) r
left_here object offset key size o r s t w o-is same size-is s-is w-is hull within = record {
  offsets = record {
    sound = λ v m. hull_weaken (IsAnother s w) (IsLeft object offset key o) from v (in_hull (IsAnother s w) t hull v (within.offsets.sound v m).member);
    complete = λ v p. within.offsets.complete v (record {
      member = from_hull (IsAnother s w) t hull v (hull_weaken (IsLeft object offset key o) (IsAnother s w) back v p);
      offset = subst (λ n. IsOffset n v) (sym size-is) (o-is.within v (p o.offsets (λ u q. q.0)));
    });
  };
  some = λ h. within.some h ∙ size-is;
  none = within.none;
}
  where
    from : (v : ℤ) → IsAnother s w v → IsLeft object offset key o v
    from v p = (subst (λ x. Has x v) s-is p.0, λ _ e. p.1 (e ∙ sym w-is))

    back : (v : ℤ) → IsLeft object offset key o v → IsAnother s w v
    back v p = (subst (λ x. Has x v) (sym s-is) p.0, λ e. p.1 same (e ∙ w-is))

-- the whole set
module _ (p : Pointers) (p-is : IsPointers p) where
  not_negative : (v : ℤ) → pos 0 ≤ℤ v → v ≡ pos (nat_abs v)
  not_negative v h = omega (arith, ints)

  within_at : (a : Option OffsetSet) → IsEntry (λ o. IsOffsetSet o) HasNoOffset a → (v : ℤ) → Has (offsets_or_none a).offsets v → v ≡ pos (nat_abs v)
  within_at None h v m = absurd (not_in_empty v m)
  within_at (Some o) h v m = not_negative v (h.0.within v m).from

  is_set : (a : Option OffsetSet) → IsEntry (λ o. IsOffsetSet o) HasNoOffset a → (offsets_or_none a).offsets ≡ empty → (offsets_or_none a).size ≡ 0
  is_set None h e = refl
  is_set (Some o) h e = h.0.none e

  module _ (x : Pointer) (object : ℕ) where
    abbrev o : OffsetSet
    o = offsets_at p object

    -- each offset stays where x leads elsewhere
    pub all_stay : ((offset : ℕ) → to object offset ≢ x) → IsOffsetsOf o.size (IsInHull (IsOffsetTo (IsOtherPointer p x) object)) o
    all_stay differ = record {
      offsets = hull_of_all (IsOffsetTo (IsOtherPointer p x) object) o.offsets
          (λ v q. subst (Has o.offsets) (sym q.is) q.pointer.0)
          (λ v m. (let e = within_at (map.get p.objects object) (p-is object) v m in record { offset = nat_abs v; is = e; pointer = (subst (Has o.offsets) e m, differ (nat_abs v)) }));
      some = λ _. refl;
      none = is_set (map.get p.objects object) (p-is object);
    }

  module _ (object offset key : ℕ) where
    abbrev at_key : OffsetSet
    at_key = offsets_at p key

    from_left : (v : ℤ) → IsLeft object offset key at_key v → IsOffsetTo (IsOtherPointer p (to object offset)) key v
    from_left v m =
        let e = within_at (map.get p.objects key) (p-is key) v m.0 in
        record { offset = nat_abs v; is = e; pointer = (subst (Has at_key.offsets) e m.0, λ f. m.1 (object_of f) (e ∙ ap pos (offset_of f))) }
      where
        object_of : {a b c d : ℕ} → ◌≡◌ {A = Pointer} (to a b) (to c d) → a ≡ c
        object_of h = cc

        offset_of : {a b c d : ℕ} → ◌≡◌ {A = Pointer} (to a b) (to c d) → b ≡ d
        offset_of h = cc

    to_left : (v : ℤ) → IsOffsetTo (IsOtherPointer p (to object offset)) key v → IsLeft object offset key at_key v
    to_left v q = (subst (Has at_key.offsets) (sym q.is) q.pointer.0, λ e f. q.pointer.1 (let g : q.offset ≡ offset = omega (arith, ints, q.is, f) in λ i. to (e i) (g i)))

    pub left_at : (r : OffsetSet) → IsOffsetsOf at_key.size (IsOtherOffset object offset key at_key) r → IsOffsetsOf at_key.size (IsInHull (IsOffsetTo (IsOtherPointer p (to object offset)) key)) r
    left_at r g = record {
      offsets = exactly_same (IsOtherOffset object offset key at_key) (IsInHull (IsOffsetTo (IsOtherPointer p (to object offset)) key)) r.offsets
          (hull_weaken (IsLeft object offset key at_key) (IsOffsetTo (IsOtherPointer p (to object offset)) key) from_left)
          (hull_weaken (IsOffsetTo (IsOtherPointer p (to object offset)) key) (IsLeft object offset key at_key) to_left) g.offsets;
      some = g.some;
      none = g.none;
    }

  module _ (before : Table OffsetSet) (same : before ≡ p.objects) (b : Bool) where
    pub without_null : (r : Pointers) (after : Table OffsetSet) → b ≡ p.invalid → after ≡ before → r ≡ record { null = false; invalid = b; objects = after } → IsHullOfPointers (IsOtherPointer p null) p r
    without_null r after b-is after-is r-is = subst (IsHullOfPointers (IsOtherPointer p null) p) (sym (r-is ∙ λ i. record { null = false; invalid = b-is i; objects = (after-is ∙ same) i })) (record {
      null = (λ t. absurd (no_two (sym t)), λ h. absurd (h.1 refl));
      invalid = (λ t. (t, λ e. cc), λ h. h.0);
      objects = λ object. all_stay null object (λ offset e. cc);
    })

    pub without_invalid : (r : Pointers) (after : Table OffsetSet) → b ≡ p.null → after ≡ before → r ≡ record { null = b; invalid = false; objects = after } → IsHullOfPointers (IsOtherPointer p invalid) p r
    without_invalid r after b-is after-is r-is = subst (IsHullOfPointers (IsOtherPointer p invalid) p) (sym (r-is ∙ λ i. record { null = b-is i; invalid = false; objects = (after-is ∙ same) i })) (record {
      null = (λ t. (t, λ e. cc), λ h. h.0);
      invalid = (λ t. absurd (no_two (sym t)), λ h. absurd (h.1 refl));
      objects = λ object. all_stay invalid object (λ offset e. cc);
    })

    pub without_offset : (object offset : ℕ) (b' : Bool) (r : Pointers) (after : Table OffsetSet) → b ≡ p.null → b' ≡ p.invalid → IsGiven (IsOtherOffset object offset) before after → r ≡ record { null = b; invalid = b'; objects = after } → IsHullOfPointers (IsOtherPointer p (to object offset)) p r
    without_offset object offset b' r after b-is b'-is given r-is = subst (IsHullOfPointers (IsOtherPointer p (to object offset)) p) (sym (r-is ∙ λ i. record { null = b-is i; invalid = b'-is i; objects = after })) (record {
      null = (λ t. (t, λ e. cc), λ h. h.0);
      invalid = (λ t. (t, λ e. cc), λ h. h.0);
      objects = λ key. left_at object offset key (offsets_or_none (map.get after key)) (subst (λ t. IsGiven (IsOtherOffset object offset) t after) same given key);
    })
