-- The one pointer of a set.
use Rattle.std.proofs.Common.{◌≡◌, ◌≢◌, ◌⊎◌, inl, inr, ⊎_elim, ℕ, ◌<◌, ◌≤◌, Bool, true, false, ◌||◌, T, List, [], ◌∷◌, length, Option, Some, MatchOption, ℤ, pos, nat_abs, ◌≤ℤ◌, refl, sym, ap, subst, ◌∙◌, arith, slice_index_or}
use Rattle.std.proofs.lemmas.Int.{ints}
use Rattle.std.proofs.lemmas.Bool.{cases_eq}
use Rattle.std.specs.Ordering.{nat_cmp}
use Rattle.std.specs.FinMap as map
use Rattle.std.specs.FinMap.{find}
use Rattle.strided_dom.specs.Progression.{Progression, empty, single, Has, IsLeastNumber, IsGreatestNumber, first_of}
use Rattle.strided_dom.proofs.Members.{not_in_empty, some_or_empty, below_antisym}
use Rattle.tm_lattice.specs.laws.Keys.{AllAbove, AllAbove-rest, find-here, find-there}
use Rattle.tm_lattice.specs.Tables.{IsBelow, IsEntry}
use Rattle.pointer_dom.specs.OffsetSets.{OffsetSet, IsOffsetSet, HasNoOffset, IsOffsetsBelow}
use Rattle.pointer_dom.specs.Pointer.{Pointer, null, invalid, to}
use Rattle.pointer_dom.specs.PointerSets.{Pointers, IsPointers, IsPointer, no_pointer, offsets_or_none}
use Rattle.pointer_dom.specs.Equality.{IsOnly, HasNoneOrTwo, HasTwo}
use Rattle.pointer_dom.specs.PointerForms.{pointer_of, flag_alone}
use Rattle.pointer_dom.proofs.ValueFacts.{below_none}
use Rattle.pointer_dom.proofs.EqualityFacts.{no_two}

not_negative : (v : ℤ) → pos 0 ≤ℤ v → v ≡ pos (nat_abs v)
not_negative v h = omega (arith, ints)

-- short lists
pub no_entry : {A : Type 0} (items : List A) → length items < 1 → items ≡ []
no_entry [] h = refl
no_entry (e ∷ es) h = absurd (omega (arith, h))

pub one_entry : (items : List (ℕ × OffsetSet)) (d d' : ℕ × OffsetSet) → 1 ≤ length items → length items < 2 → items ≡ ((slice_index_or items 0 d).0, (slice_index_or items 0 d').1) ∷ []
one_entry [] d d' h k = absurd (omega (arith, h))
one_entry (e ∷ []) d d' h k = refl
one_entry (e ∷ f ∷ es) d d' h k = absurd (omega (arith, k))

-- both ends of a set are one number
pub one_number : (s : Progression) (lo hi : ℤ) → IsLeastNumber (Has s) lo → IsGreatestNumber (Has s) hi → lo ≡ hi → s ≡ single lo
unfolding Has
one_number s lo hi least greatest e = below_antisym s (single lo)
    (record { within = λ v m. omega (arith, ints, e, least.bound v m, greatest.bound v m) })
    (record { within = λ v m. subst (Has s) (sym m) least.member })

-- the set is known by the entries of its table
module _ (p : Pointers) (p-is : IsPointers p) (items : List (ℕ × OffsetSet)) (whole : items ≡ map.entries p.objects) where
  at_entry : (es : List (ℕ × OffsetSet)) → items ≡ es → (key : ℕ) → map.get p.objects key ≡ find nat_cmp key es
  at_entry es e key = map.get-entries p.objects key ∙ ap (find nat_cmp key) (sym whole ∙ e)

  sorted_items : (es : List (ℕ × OffsetSet)) → items ≡ es → T (map.is_sorted nat_cmp es)
  sorted_items es e = subst (λ l. T (map.is_sorted nat_cmp l)) (sym whole ∙ e) (map.entries_sorted p.objects)

  entry_is : (key : ℕ) (o : OffsetSet) → map.get p.objects key ≡ Some o → IsOffsetSet o × (HasNoOffset o → ⊥)
  entry_is key o found = subst (λ a. IsEntry (λ x. IsOffsetSet x) HasNoOffset a) found (p-is key)

  member_at : (key : ℕ) (o : OffsetSet) → map.get p.objects key ≡ Some o → (v : ℤ) → Has o.offsets v → IsPointer p (to key (nat_abs v)) × (v ≡ pos (nat_abs v))
  member_at key o found v m =
      let e = not_negative v ((entry_is key o found).0.within v m).from in
      (subst (λ a. Has (offsets_or_none a).offsets (pos (nat_abs v))) (sym found) (subst (λ x. Has o.offsets x) e m), e)

  pointer_at : (key : ℕ) (o : OffsetSet) → map.get p.objects key ≡ Some o → (offset : ℕ) × IsPointer p (to key offset)
  pointer_at key o found = ⊎_elim
      (λ some. (let m = member_at key o found (first_of o.offsets) some in (nat_abs (first_of o.offsets), m.0)))
      (λ none. absurd ((entry_is key o found).1 none)) (some_or_empty o.offsets)

  -- no object
  module _ (none : items ≡ []) where
    no_object : (object offset : ℕ) → IsPointer p (to object offset) → ⊥
    no_object object offset m = not_in_empty _ (subst (λ a. Has (offsets_or_none a).offsets (pos offset)) (at_entry [] none object) m)

    flags : (a b : Bool) → p.null ≡ a → p.invalid ≡ b → MatchOption (flag_alone a b) (HasNoneOrTwo p) (λ x. IsOnly p (pointer_of x))
    flags true true e f = inr (record { left = null; right = invalid; in_left = e; in_right = f; differ = λ h. cc })
    flags true false e f = record { member = e; only = only }
      where
        only : (y : Pointer) → IsPointer p y → y ≡ null
        only null m = refl
        only invalid m = absurd (no_two (sym m ∙ f))
        only (to object offset) m = absurd (no_object object offset m)
    flags false true e f = record { member = f; only = only }
      where
        only : (y : Pointer) → IsPointer p y → y ≡ invalid
        only null m = absurd (no_two (sym m ∙ e))
        only invalid m = refl
        only (to object offset) m = absurd (no_object object offset m)
    flags false false e f = inl (below_none p p-is (record {
      null = λ m. absurd (no_two (sym m ∙ e));
      invalid = λ m. absurd (no_two (sym m ∙ f));
      objects = λ key. subst (λ a. IsBelow (λ o o'. IsOffsetsBelow o o') a (map.get no_pointer.objects key)) (sym (at_entry [] none key)) tt;
    }))

    pub only_flags : (null-flag invalid-flag : Bool) (a : Option _) → null-flag ≡ p.null → invalid-flag ≡ p.invalid → a ≡ flag_alone null-flag invalid-flag → MatchOption a (HasNoneOrTwo p) (λ x. IsOnly p (pointer_of x))
    only_flags null-flag invalid-flag a e f g = subst (λ x. MatchOption x (HasNoneOrTwo p) (λ y. IsOnly p (pointer_of y))) (sym g) (flags null-flag invalid-flag (sym e) (sym f))

  -- one object
  module _ (object : ℕ) (o : OffsetSet) (one : items ≡ (object, o) ∷ []) where
    found : map.get p.objects object ≡ Some o
    found = at_entry ((object, o) ∷ []) one object ∙ find-here object (object, o) [] refl

    pub not_empty : o.offsets ≡ empty → ⊥
    not_empty e = (entry_is object o found).1 e

    pub flag_and_object : (null-flag invalid-flag : Bool) → null-flag ≡ p.null → invalid-flag ≡ p.invalid → (null-flag || invalid-flag) ≡ true → HasNoneOrTwo p
    flag_and_object true invalid-flag e f g = (let x = pointer_at object o found in inr (record { left = null; right = to object x.0; in_left = sym e; in_right = x.1; differ = λ h. cc }))
    flag_and_object false true e f g = (let x = pointer_at object o found in inr (record { left = invalid; right = to object x.0; in_left = sym f; in_right = x.1; differ = λ h. cc }))
    flag_and_object false false e f g = absurd (no_two (sym g))

    pub two_offsets : HasTwo o.offsets → HasNoneOrTwo p
    two_offsets h =
        let x = member_at object o found h.one h.in_set in
        let y = member_at object o found h.other h.other_in_set in
        inr (record {
          left = to object (nat_abs h.one);
          right = to object (nat_abs h.other);
          in_left = x.0;
          in_right = y.0;
          differ = λ e. h.differ (x.1 ∙ (ap pos (offset_of e) ∙ sym y.1));
        })
      where
        offset_of : {a b c d : ℕ} → ◌≡◌ {A = Pointer} (to a b) (to c d) → b ≡ d
        offset_of h = cc

    elsewhere : (other offset : ℕ) → other ≢ object → IsPointer p (to other offset) → ⊥
    elsewhere other offset n m = not_in_empty _ (subst (λ a. Has (offsets_or_none a).offsets (pos offset)) (at_entry ((object, o) ∷ []) one other ∙ find-there other (object, o) [] n) m)

    pub one_offset : (null-flag invalid-flag : Bool) (offset : ℕ) → null-flag ≡ p.null → invalid-flag ≡ p.invalid → (null-flag || invalid-flag) ≡ false → o.offsets ≡ single (pos offset) → IsOnly p (to object offset)
    unfolding Has
    one_offset true invalid-flag offset e f g h = absurd (no_two g)
    one_offset false true offset e f g h = absurd (no_two g)
    one_offset false false offset e f g h = record {
      member = subst (λ a. Has (offsets_or_none a).offsets (pos offset)) (sym found) (subst (λ s. Has s (pos offset)) (sym h) refl);
      only = only;
    }
      where
        only : (y : Pointer) → IsPointer p y → y ≡ to object offset
        only null m = absurd (no_two (sym m ∙ sym e))
        only invalid m = absurd (no_two (sym m ∙ sym f))
        only (to a b) m = ⊎_elim
            (λ same. (let m' : Has o.offsets (pos b) = subst (λ x. Has (offsets_or_none x).offsets (pos b)) (ap (map.get p.objects) same ∙ found) m in
            let n : pos b ≡ pos offset = subst (λ s. Has s (pos b)) h m' in
            let k : b ≡ offset = omega (arith, ints, n) in λ i. to (same i) (k i)))
            (λ differ. absurd (elsewhere a b differ m)) (cases_eq a object)

  -- two objects
  two_keys : (es : List (ℕ × OffsetSet)) → items ≡ es → 2 ≤ length es → HasNoneOrTwo p
  two_keys [] e h = absurd (omega (arith, h))
  two_keys (x ∷ []) e h = absurd (omega (arith, h))
  two_keys (x ∷ y ∷ es) e h =
      let above : x.0 < y.0 = (AllAbove-rest x (y ∷ es) (sorted_items (x ∷ y ∷ es) e)).0 in
      let one = pointer_at x.0 x.1 (at_entry (x ∷ y ∷ es) e x.0 ∙ find-here x.0 x (y ∷ es) refl) in
      let other = pointer_at y.0 y.1 (at_entry (x ∷ y ∷ es) e y.0 ∙ (find-there y.0 x (y ∷ es) (omega (arith, above)) ∙ find-here y.0 y es refl)) in
      inr (record { left = to x.0 one.0; right = to y.0 other.0; in_left = one.1; in_right = other.1; differ = λ f. (let g : x.0 ≡ y.0 = object_of f in omega (arith, above, g)) })
    where
      object_of : {a b c d : ℕ} → ◌≡◌ {A = Pointer} (to a b) (to c d) → a ≡ c
      object_of h = cc

  pub two_objects : 2 ≤ length items → HasNoneOrTwo p
  two_objects h = two_keys items refl h
