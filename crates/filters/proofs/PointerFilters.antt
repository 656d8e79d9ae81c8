-- What is left of two sets of pointers where some pointers of them are unequal.
use Rattle.std.proofs.Common.{◌≡◌, ◌≢◌, inl, inr, ⊎_elim, ℕ, Option, Some, None, Result, Ok, Err, IfOk, ℤ, pos, nat_abs, ◌≤ℤ◌, refl, sym, subst, ◌∙◌, arith}
use Rattle.std.proofs.lemmas.Int.{ints}
use Rattle.std.specs.FinMap as map
use Rattle.strided_dom.specs.Progression.{empty, Has}
use Rattle.strided_dom.proofs.Members.{not_in_empty}
use Rattle.strided_dom.proofs.Spans.{exactly_same}
use Rattle.tm_lattice.specs.Tables.{IsEntry}
use Rattle.pointer_dom.specs.OffsetSets.{OffsetSet, IsOffsetSet, HasNoOffset, IsOffsetsOf}
use Rattle.pointer_dom.specs.Pointer.{Pointer, null, invalid, to}
use Rattle.pointer_dom.specs.PointerSets.{Pointers, IsPointers, IsPointer, no_pointer, offsets_or_none, offsets_at}
use Rattle.pointer_dom.specs.Advances.{IsInHull}
use Rattle.pointer_dom.specs.Selections.{IsOffsetTo, IsHullOfPointers, IsOtherPointer}
use Rattle.pointer_dom.specs.Equality.{IsOnly, HasNoneOrTwo}
use Rattle.pointer_dom.proofs.AdvanceFacts.{hull_weaken}
use Rattle.pointer_dom.proofs.MeetFacts.{none_met}
use Rattle.pointer_dom.proofs.EqualityFacts.{no_two, same_or_not, not_in_none}
use Rattle.filters.specs.PointerPartners.{MayBeUnequal}

pub ok_map : {A E : Type 0} (r : Result A E) (P Q : A → Type 0) → ((x : A) → P x → Q x) → IfOk r P → IfOk r Q
ok_map (Ok x) P Q f h = f x h
ok_map (Err e) P Q f h = h

-- the same by another description
pub hull_by : (P Q : Pointer → Type 0) (p r : Pointers) → ((x : Pointer) → P x → Q x) → ((x : Pointer) → Q x → P x) → IsHullOfPointers P p r → IsHullOfPointers Q p r
hull_by P Q p r f g h = record {
  null = (λ t. f null (h.null.0 t), λ x. h.null.1 (g null x));
  invalid = (λ t. f invalid (h.invalid.0 t), λ x. h.invalid.1 (g invalid x));
  objects = λ object. (let at = h.objects object in record {
    offsets = exactly_same (IsInHull (IsOffsetTo P object)) (IsInHull (IsOffsetTo Q object)) _
        (hull_weaken (IsOffsetTo P object) (IsOffsetTo Q object) (λ v q. record { offset = q.offset; is = q.is; pointer = f (to object q.offset) q.pointer }))
        (hull_weaken (IsOffsetTo Q object) (IsOffsetTo P object) (λ v q. record { offset = q.offset; is = q.is; pointer = g (to object q.offset) q.pointer })) at.offsets;
    some = at.some;
    none = at.none;
  });
}

-- nothing has the property
hull_none : (P : Pointer → Type 0) (p : Pointers) → ((x : Pointer) → P x → ⊥) → IsHullOfPointers P p no_pointer
hull_none P p never = record {
  null = (λ t. absurd (no_two (sym t)), λ x. absurd (never null x));
  invalid = (λ t. absurd (no_two (sym t)), λ x. absurd (never invalid x));
  objects = λ object.
      let Q = IsInHull (IsOffsetTo P object) in
      subst (λ a. IsOffsetsOf (offsets_at p object).size Q (offsets_or_none a)) (sym (map.get-empty _ object))
      (none_met (offsets_at p object).size Q (λ v q. not_in_empty v (q empty (λ w m. absurd (never (to object m.offset) m.pointer)))));
}

-- all of the set has it
not_negative : (v : ℤ) → pos 0 ≤ℤ v → v ≡ pos (nat_abs v)
not_negative v h = omega (arith, ints)

within_at : (a : Option OffsetSet) → IsEntry (λ o. IsOffsetSet o) HasNoOffset a → (v : ℤ) → Has (offsets_or_none a).offsets v → v ≡ pos (nat_abs v)
within_at None h v m = absurd (not_in_empty v m)
within_at (Some o) h v m = not_negative v (h.0.within v m).from

none_at : (a : Option OffsetSet) → IsEntry (λ o. IsOffsetSet o) HasNoOffset a → (offsets_or_none a).offsets ≡ empty → (offsets_or_none a).size ≡ 0
none_at None h e = refl
none_at (Some o) h e = h.0.none e

pub hull_all : (P : Pointer → Type 0) (p : Pointers) → IsPointers p → ((x : Pointer) → IsPointer p x → P x) → ((x : Pointer) → P x → IsPointer p x) → IsHullOfPointers P p p
hull_all P p p-is f g = record {
  null = (f null, g null);
  invalid = (f invalid, g invalid);
  objects = λ object. record {
    offsets = record {
      sound = λ v m s k. (let e = within_at (map.get p.objects object) (p-is object) v m in k v (record { offset = nat_abs v; is = e; pointer = f (to object (nat_abs v)) (subst (Has (offsets_at p object).offsets) e m) }));
      complete = λ v q. q (offsets_at p object).offsets (λ w m. subst (Has (offsets_at p object).offsets) (sym m.is) (g (to object m.offset) m.pointer));
    };
    some = λ _. refl;
    none = none_at (map.get p.objects object) (p-is object);
  };
}

module _ (p q : Pointers) where
  pub unequal_none : q ≡ no_pointer → (r : Pointers) → r ≡ no_pointer → IsHullOfPointers (MayBeUnequal p q) p r
  unequal_none e r r-is = subst (IsHullOfPointers (MayBeUnequal p q) p) (sym r-is)
      (hull_none (MayBeUnequal p q) p (λ x h. not_in_none h.partner (subst (λ s. IsPointer s h.partner) e h.in_other)))

  pub unequal_two : IsPointers p → q ≢ no_pointer → HasNoneOrTwo q → IsHullOfPointers (MayBeUnequal p q) p p
  unequal_two p-is some h = hull_all (MayBeUnequal p q) p p-is (λ x m. ⊎_elim
      (λ none. absurd (some none))
      (λ two. ⊎_elim
      (λ e. record { member = m; partner = two.right; in_other = two.in_right; unequal = inl (λ f. two.differ (sym e ∙ f)) })
      (λ n. record { member = m; partner = two.left; in_other = two.in_left; unequal = inl n }) (same_or_not x two.left)) h) (λ x h. h.member)

  pub unequal_invalid : IsPointers p → IsOnly q invalid → IsHullOfPointers (MayBeUnequal p q) p p
  unequal_invalid p-is only = hull_all (MayBeUnequal p q) p p-is (λ x m. record { member = m; partner = invalid; in_other = only.member; unequal = inr refl }) (λ x h. h.member)

  pub unequal_one : (x : Pointer) → x ≢ invalid → IsOnly q x → (r : Pointers) → IsHullOfPointers (IsOtherPointer p x) p r → IsHullOfPointers (MayBeUnequal p q) p r
  unequal_one x valid only r h = hull_by (IsOtherPointer p x) (MayBeUnequal p q) p r
      (λ y m. record { member = m.0; partner = x; in_other = only.member; unequal = inl m.1 })
      (λ y m. (m.member, λ e. ⊎_elim (λ n. n (e ∙ sym (only.only m.partner m.in_other))) (λ i. valid (sym (only.only m.partner m.in_other) ∙ i)) m.unequal)) h

pub null_valid : null ≢ invalid
null_valid e = cc

pub to_valid : (object offset : ℕ) → to object offset ≢ invalid
to_valid object offset e = cc
