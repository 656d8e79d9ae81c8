-- What the operations on sets of pointers mean for their members.
use Rattle.std.proofs.Common.{◌≡◌, ◌≢◌, ◌⊎◌, ⊎_elim, inl, ℕ, ◌≤◌, Bool, true, false, IsTrue, Option, Some, None, ℤ, pos, ◌+ℤ◌, refl, sym, subst, ◌∙◌, arith}
use Rattle.std.proofs.lemmas.Int.{ints}
use Rattle.std.specs.FinMap as map
use Rattle.strided_dom.specs.Progression.{Progression, single, Has, IsSubset, IsExactly, first_of}
use Rattle.strided_dom.proofs.Members.{not_in_empty, some_or_empty, below_antisym}
use Rattle.tm_lattice.specs.Tables.{IsEntry, IsBelow as IsEntryBelow}
use Rattle.pointer_dom.specs.Offset.{IsOffset}
use Rattle.pointer_dom.specs.OffsetSets.{OffsetSet, IsOffsetSet, HasNoOffset, IsOffsetsOf, IsOffsetsBelow}
use Rattle.pointer_dom.specs.Pointer.{Pointer, null, invalid, to}
use Rattle.pointer_dom.specs.PointerSets.{Pointers, IsPointers, IsPointer, IsPointersBelow, HaveEqualSizes, offsets_or_none, offsets_at}
use Rattle.pointer_dom.specs.Advances.{IsAdvanced, IsAdvance, IsSafeAdvance, usable_pointers}
use Rattle.pointer_dom.specs.Selections.{IsOffsetTo, IsHullOfPointers}
use Rattle.pointer_dom.specs.Equality.{IsEqualityValue, Meet, IsOnly}
use Rattle.pointer_dom.proofs.AdvanceFacts.{hull_weaken}
use Rattle.pointer_dom.proofs.EqualityFacts.{no_two}
use Rattle.pointer_dom.proofs.Meaning.{included}

offset_up : (size size' : ℕ) (v : ℤ) → size ≤ size' → IsOffset size v → IsOffset size' v
offset_up size size' v le h = record { from = h.from; to = omega (arith, ints, le, h.to) }

below_at : (a b : Option OffsetSet) → IsEntryBelow (λ o p. IsOffsetsBelow o p) a b → (v : ℤ) → Has (offsets_or_none a).offsets v → Has (offsets_or_none b).offsets v
below_at None b h v m = absurd (not_in_empty v m)
below_at (Some o) None h v m = absurd h
below_at (Some o) (Some p) h v m = h.offsets.within v m

sizes_below : (a b : Option OffsetSet) → IsEntryBelow (λ o p. IsOffsetsBelow o p) a b → (offsets_or_none a).size ≤ (offsets_or_none b).size
sizes_below None b h = omega arith
sizes_below (Some o) None h = absurd h
sizes_below (Some o) (Some p) h = h.size

-- what is given from less is less
given_below : (a b r r' : Option OffsetSet) (P P' : ℤ → Type 0) → IsEntry (λ o. IsOffsetSet o) HasNoOffset r → IsEntryBelow (λ o p. IsOffsetsBelow o p) a b
    → IsOffsetsOf (offsets_or_none a).size P (offsets_or_none r) → IsOffsetsOf (offsets_or_none b).size P' (offsets_or_none r') → ((v : ℤ) → P v → P' v) → IsEntryBelow (λ o p. IsOffsetsBelow o p) r r'
given_below a b None r' P P' r-is h g g' f = tt
given_below a b (Some o) None P P' r-is h g g' f = absurd (⊎_elim (λ some. not_in_empty _ (g'.offsets.complete _ (f _ (g.offsets.sound _ some)))) (λ none. r-is.1 none) (some_or_empty o.offsets))
given_below a b (Some o) (Some o') P P' r-is h g g' f =
    let within = λ (v : ℤ) (m : Has o.offsets v). g'.offsets.complete v (f v (g.offsets.sound v m)) in
    let size = g.some r-is.1 in
    let size' = g'.some (λ none. ⊎_elim (λ some. not_in_empty _ (subst (λ x. Has x (first_of o.offsets)) none (within (first_of o.offsets) some))) (λ none'. r-is.1 none') (some_or_empty o.offsets)) in
    let le = sizes_below a b h in
    record { size = omega (arith, size, size', le); offsets = record { within = within } }

module _ (Step : ℤ → Type 0) where
  pub advance_holds : (p r : Pointers) (object from offset : ℕ) (step : ℤ) → IsAdvance Step p r → IsPointer p (to object from) → Step step → pos offset ≡ pos from +ℤ step → offset ≤ (offsets_at p object).size → IsPointer r (to object offset)
  advance_holds p r object from offset step h m s e le = (h.objects object).offsets.complete (pos offset) (record {
    hull = λ t k. k (pos offset) (record { from = pos from; step = step; in_offsets = m; in_steps = s; reached = e });
    offset = record { from = omega (arith, ints); to = omega (arith, ints, le) };
  })

  pub safe_stays : (p : Pointers) (object from : ℕ) (step : ℤ) → IsSafeAdvance Step p → IsPointer p (to object from) → Step step → IsOffset (offsets_at p object).size (pos from +ℤ step)
  safe_stays p object from step h m s = h.inside object (pos from +ℤ step) (record { from = pos from; step = step; in_offsets = m; in_steps = s; reached = refl })

  pub safe_null : (p : Pointers) → IsSafeAdvance Step p → IsPointer p null → ⊥
  safe_null p h m = no_two (sym m ∙ h.null)

  pub safe_invalid : (p : Pointers) → IsSafeAdvance Step p → IsPointer p invalid → ⊥
  safe_invalid p h m = no_two (sym m ∙ h.invalid)

module _ (Step Step' : ℤ → Type 0) (more : (v : ℤ) → Step v → Step' v) (p p' : Pointers) (below : IsPointersBelow p p') where
  advanced_more : (object : ℕ) (v : ℤ) → IsAdvanced Step (offsets_at p object).offsets v → IsAdvanced Step' (offsets_at p' object).offsets v
  advanced_more object v q = record {
    from = q.from;
    step = q.step;
    in_offsets = below_at (map.get p.objects object) (map.get p'.objects object) (below.objects object) q.from q.in_offsets;
    in_steps = more q.step q.in_steps;
    reached = q.reached;
  }

  pub advance_below : (r r' : Pointers) → IsPointers r → IsAdvance Step p r → IsAdvance Step' p' r' → IsPointersBelow r r'
  advance_below r r' r-is h h' = record {
    null = λ m. absurd (no_two (sym m ∙ h.null));
    invalid = λ m. absurd (no_two (sym m ∙ h.invalid));
    objects = λ object. given_below (map.get p.objects object) (map.get p'.objects object) (map.get r.objects object) (map.get r'.objects object) _ _ (r-is object) (below.objects object) (h.objects object) (h'.objects object)
        (λ v q. record {
          hull = hull_weaken (IsAdvanced Step (offsets_at p object).offsets) (IsAdvanced Step' (offsets_at p' object).offsets) (advanced_more object) v q.hull;
          offset = offset_up (offsets_at p object).size (offsets_at p' object).size v (sizes_below (map.get p.objects object) (map.get p'.objects object) (below.objects object)) q.offset;
        });
  }

  same_size : (a b : Option OffsetSet) → ((o o' : OffsetSet) → a ≡ Some o → b ≡ Some o' → o.size ≡ o'.size) → IsEntryBelow (λ o q. IsOffsetsBelow o q) a b → (v : ℤ) → IsAdvanced Step (offsets_or_none a).offsets v → IsOffset (offsets_or_none b).size v → IsOffset (offsets_or_none a).size v
  same_size None b sizes h v q is = absurd (not_in_empty q.from q.in_offsets)
  same_size (Some o) None sizes h v q is = absurd h
  same_size (Some o) (Some o') sizes h v q is = subst (λ n. IsOffset n v) (sym (sizes o o' refl refl)) is

  false_below : (a b : Bool) → (IsTrue a → IsTrue b) → b ≡ false → a ≡ false
  false_below true b h e = absurd (no_two (sym (h refl) ∙ e))
  false_below false b h e = refl

  pub safe_below : HaveEqualSizes p p' → IsSafeAdvance Step' p' → IsSafeAdvance Step p
  safe_below sizes h = record {
    null = false_below p.null p'.null below.null h.null;
    invalid = false_below p.invalid p'.invalid below.invalid h.invalid;
    inside = λ object v q. same_size (map.get p.objects object) (map.get p'.objects object) (sizes object) (below.objects object) v q (h.inside object v (advanced_more object v q));
  }

-- selections
pub hull_holds : (P : Pointer → Type 0) (p r : Pointers) (x : Pointer) → IsHullOfPointers P p r → P x → IsPointer r x
hull_holds P p r null h q = h.null.1 q
hull_holds P p r invalid h q = h.invalid.1 q
hull_holds P p r (to object offset) h q = (h.objects object).offsets.complete (pos offset) (λ s k. k (pos offset) (record { offset = offset; is = refl; pointer = q }))

pub hull_below : (P P' : Pointer → Type 0) (p p' r r' : Pointers) → ((x : Pointer) → P x → P' x) → IsPointers r → IsPointersBelow p p' → IsHullOfPointers P p r → IsHullOfPointers P' p' r' → IsPointersBelow r r'
hull_below P P' p p' r r' f r-is below h h' = record {
  null = λ m. h'.null.1 (f null (h.null.0 m));
  invalid = λ m. h'.invalid.1 (f invalid (h.invalid.0 m));
  objects = λ object. given_below (map.get p.objects object) (map.get p'.objects object) (map.get r.objects object) (map.get r'.objects object) _ _ (r-is object) (below.objects object) (h.objects object) (h'.objects object)
      (hull_weaken (IsOffsetTo P object) (IsOffsetTo P' object) (λ v q. record { offset = q.offset; is = q.is; pointer = f (to object q.offset) q.pointer }));
}

-- comparisons
pub truth_below : (equal : Bool) (p q p' q' : Pointers) (s s' : Progression) → IsExactly (IsEqualityValue equal p q) s → IsExactly (IsEqualityValue equal p' q') s' → IsPointersBelow p p' → IsPointersBelow q q' → IsSubset s s'
truth_below equal p q p' q' s s' h h' k l = record {
  within = λ v m. (let t = h.sound v m in h'.complete v (record { left = t.left; right = t.right; in_left = included p p' t.left k t.in_left; in_right = included q q' t.right l t.in_right; truth = t.truth }));
}

pub apart_is : (p q : Pointers) (s : Progression) → IsExactly (IsEqualityValue true p q) s → (Meet p q → ⊥) → IsSubset s (single (pos 0))
unfolding Has
apart_is p q s h apart = record {
  within = λ v m. (let t = h.sound v m in ⊎_elim (λ x. absurd (apart (record { common = t.left; in_left = t.in_left; in_right = subst (IsPointer q) (sym x.1) t.in_right }))) (λ x. x.0) t.truth);
}

pub same_is : (p q : Pointers) (x : Pointer) (s : Progression) → IsExactly (IsEqualityValue true p q) s → IsOnly p x → IsOnly q x → s ≡ single (pos 1)
unfolding Has
same_is p q x s h k l = below_antisym s (single (pos 1))
    (record { within = λ v m. (let t = h.sound v m in ⊎_elim (λ y. y.0) (λ y. absurd (y.1 (k.only t.left t.in_left ∙ sym (l.only t.right t.in_right)))) t.truth) })
    (record { within = λ v m. h.complete v (record { left = x; right = x; in_left = k.member; in_right = l.member; truth = inl (m, refl) }) })

pub usable_holds : (p : Pointers) (x : Pointer) → IsPointer p x → x ≢ invalid → IsPointer (usable_pointers p) x
usable_holds p null m valid = m
usable_holds p invalid m valid = absurd (valid refl)
usable_holds p (to object offset) m valid = m
