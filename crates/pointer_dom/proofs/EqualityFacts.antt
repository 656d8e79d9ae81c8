-- Which pointers two sets have in common, and which differ.
use Rattle.std.proofs.Common.{◌≡◌, ◌≢◌, ◌↔◌, ◌⊎◌, inl, inr, ⊎_elim, ℕ, Bool, true, false, IsTrue, Option, Some, None, MatchOption, pos, refl, sym, subst, ◌∙◌, arith}
use Rattle.std.proofs.lemmas.Int.{ints, by_lt_z}
use Rattle.std.proofs.lemmas.Bool.{cases_eq}
use Rattle.std.specs.FinMap as map
use Rattle.strided_dom.specs.Progression.{Progression, empty, single, Has, IsExactly, IsSpaced}
use Rattle.strided_dom.proofs.Members.{not_in_empty}
use Rattle.strided_dom.proofs.low.tm_numbers.Congruences.{cong_up}
use Rattle.pointer_dom.specs.Pointer.{Pointer, null, invalid, to}
use Rattle.pointer_dom.specs.PointerSets.{Pointers, IsPointer, no_pointer, offsets_or_none}
use Rattle.pointer_dom.specs.Equality.{IsEqualityValue, Meet, Differ, IsOnly, HasNoneOrTwo}
use Rattle.pointer_dom.specs.PointerForms.{pointer_of}
use Rattle.pointer_dom.specs.declared.comparisons.PointerValue.{PointerValue}
use Rattle.pointer_dom.specs.declared.comparisons.PointerValue.TheVariants.{Null, Invalid, To}

pub no_two : true ≡ false → ⊥
no_two e = cc

-- the numbers for which something is known
pub truths_both : (a b : Bool) → IsTrue a → IsTrue b → (s : Progression) → IsExactly (IsSpaced (pos 0) (pos 1) 1) s → IsExactly (λ v. ((v ≡ pos 1) × IsTrue a) ⊎ ((v ≡ pos 0) × IsTrue b)) s
truths_both a b p q s exact = record {
  sound = λ v m. (let x = exact.sound v m in by_lt_z (pos 0) v (λ h. inl (omega (arith, ints, h, x.to), p)) (λ h. inr (omega (arith, ints, h, x.from), q)));
  complete = λ v h. exact.complete v (⊎_elim
      (λ x. record { from = omega (arith, ints, x.0); to = omega (arith, ints, x.0); congruent = cong_up 1 1 v (pos 0) (omega (arith, ints, x.0)) })
      (λ x. record { from = omega (arith, ints, x.0); to = omega (arith, ints, x.0); congruent = cong_up 1 0 v (pos 0) (omega (arith, ints, x.0)) }) h);
}

pub truths_first : (a b : Bool) → IsTrue a → b ≡ false → (s : Progression) → s ≡ single (pos 1) → IsExactly (λ v. ((v ≡ pos 1) × IsTrue a) ⊎ ((v ≡ pos 0) × IsTrue b)) s
unfolding Has
truths_first a b p q s e = subst (IsExactly (λ v. ((v ≡ pos 1) × IsTrue a) ⊎ ((v ≡ pos 0) × IsTrue b))) (sym e) (record {
  sound = λ v m. inl (m, p);
  complete = λ v h. ⊎_elim (λ x. x.0) (λ x. absurd (no_two (sym x.1 ∙ q))) h;
})

pub truths_second : (a b : Bool) → a ≡ false → IsTrue b → (s : Progression) → s ≡ single (pos 0) → IsExactly (λ v. ((v ≡ pos 1) × IsTrue a) ⊎ ((v ≡ pos 0) × IsTrue b)) s
unfolding Has
truths_second a b p q s e = subst (IsExactly (λ v. ((v ≡ pos 1) × IsTrue a) ⊎ ((v ≡ pos 0) × IsTrue b))) (sym e) (record {
  sound = λ v m. inr (m, q);
  complete = λ v h. ⊎_elim (λ x. absurd (no_two (sym x.1 ∙ p))) (λ x. x.0) h;
})

pub truths_none : (a b : Bool) → a ≡ false → b ≡ false → (s : Progression) → s ≡ empty → IsExactly (λ v. ((v ≡ pos 1) × IsTrue a) ⊎ ((v ≡ pos 0) × IsTrue b)) s
truths_none a b p q s e = record {
  sound = λ v m. absurd (not_in_empty v (subst (λ x. Has x v) e m));
  complete = λ v h. absurd (⊎_elim (λ x. no_two (sym x.1 ∙ p)) (λ x. no_two (sym x.1 ∙ q)) h);
}

-- the values of the comparison
module _ (p q : Pointers) (same differ : Bool) (same-is : IsTrue same ↔ Meet p q) (differ-is : IsTrue differ ↔ Differ p q) (s : Progression) where
  pub equal_is : IsExactly (λ v. ((v ≡ pos 1) × IsTrue same) ⊎ ((v ≡ pos 0) × IsTrue differ)) s → IsExactly (IsEqualityValue true p q) s
  equal_is exact = record {
    sound = λ v m. ⊎_elim
        (λ x. (let h = same-is.0 x.1 in record { left = h.common; right = h.common; in_left = h.in_left; in_right = h.in_right; truth = inl (x.0, refl) }))
        (λ x. (let h = differ-is.0 x.1 in record { left = h.left; right = h.right; in_left = h.in_left; in_right = h.in_right; truth = inr (x.0, h.differ) })) (exact.sound v m);
    complete = λ v h. exact.complete v (⊎_elim
        (λ x. inl (x.0, same-is.1 (record { common = h.left; in_left = h.in_left; in_right = subst (IsPointer q) (sym x.1) h.in_right })))
        (λ x. inr (x.0, differ-is.1 (record { left = h.left; right = h.right; in_left = h.in_left; in_right = h.in_right; differ = x.1 }))) h.truth);
  }

  pub unequal_is : IsExactly (λ v. ((v ≡ pos 1) × IsTrue differ) ⊎ ((v ≡ pos 0) × IsTrue same)) s → IsExactly (IsEqualityValue false p q) s
  unequal_is exact = record {
    sound = λ v m. ⊎_elim
        (λ x. (let h = differ-is.0 x.1 in record { left = h.left; right = h.right; in_left = h.in_left; in_right = h.in_right; truth = inl (x.0, h.differ) }))
        (λ x. (let h = same-is.0 x.1 in record { left = h.common; right = h.common; in_left = h.in_left; in_right = h.in_right; truth = inr (x.0, refl) })) (exact.sound v m);
    complete = λ v h. exact.complete v (⊎_elim
        (λ x. inl (x.0, differ-is.1 (record { left = h.left; right = h.right; in_left = h.in_left; in_right = h.in_right; differ = x.1 })))
        (λ x. inr (x.0, same-is.1 (record { common = h.left; in_left = h.in_left; in_right = subst (IsPointer q) (sym x.1) h.in_right }))) h.truth);
  }

-- equality is decided
pub same_or_not : (x y : Pointer) → (x ≡ y) ⊎ (x ≢ y)
same_or_not null null = inl refl
same_or_not invalid invalid = inl refl
same_or_not (to a b) (to c d) = ⊎_elim
    (λ e. ⊎_elim (λ f. inl (λ i. to (e i) (f i))) (λ n. inr (λ h. n (offset_of h))) (cases_eq b d))
    (λ n. inr (λ h. n (object_of h))) (cases_eq a c)
  where
    object_of : {a b c d : ℕ} → ◌≡◌ {A = Pointer} (to a b) (to c d) → a ≡ c
    object_of h = cc

    offset_of : {a b c d : ℕ} → ◌≡◌ {A = Pointer} (to a b) (to c d) → b ≡ d
    offset_of h = cc
same_or_not null invalid = inr (λ h. cc)
same_or_not null (to a b) = inr (λ h. cc)
same_or_not invalid null = inr (λ h. cc)
same_or_not invalid (to a b) = inr (λ h. cc)
same_or_not (to a b) null = inr (λ h. cc)
same_or_not (to a b) invalid = inr (λ h. cc)

pub not_in_none : (x : Pointer) → IsPointer no_pointer x → ⊥
not_in_none null h = no_two (sym h)
not_in_none invalid h = no_two (sym h)
not_in_none (to object offset) h = not_in_empty _ (subst (λ a. (let o = offsets_or_none a in Has o.offsets (pos offset))) (map.get-empty _ object) h)

-- one of two pointers differs from a third
two_and_one : (p q : Pointers) (z : Pointer) → Differ p p → IsPointer q z → Differ p q
two_and_one p q z two z-in = ⊎_elim
    (λ e. record { left = two.right; right = z; in_left = two.in_right; in_right = z-in; differ = λ f. two.differ (e ∙ sym f) })
    (λ n. record { left = two.left; right = z; in_left = two.in_left; in_right = z-in; differ = n }) (same_or_not two.left z)

turned : (p q : Pointers) → Differ q p → Differ p q
turned p q h = record { left = h.right; right = h.left; in_left = h.in_right; in_right = h.in_left; differ = λ e. h.differ (sym e) }

two_of : (p : Pointers) → p ≢ no_pointer → HasNoneOrTwo p → Differ p p
two_of p some h = ⊎_elim (λ none. absurd (some none)) (λ two. two) h

pub some_pointer : (q : Pointers) → q ≢ no_pointer → (a : Option PointerValue) → MatchOption a (HasNoneOrTwo q) (λ x. IsOnly q (pointer_of x)) → (z : Pointer) × IsPointer q z
some_pointer q some None h = let two = two_of q some h in (two.left, two.in_left)
some_pointer q some (Some x) h = (pointer_of x, h.member)

pub differ_left : (p q : Pointers) → p ≢ no_pointer → q ≢ no_pointer → HasNoneOrTwo p → (a : Option PointerValue) → MatchOption a (HasNoneOrTwo q) (λ x. IsOnly q (pointer_of x)) → Differ p q
differ_left p q p-some q-some h a k = let z = some_pointer q q-some a k in two_and_one p q z.0 (two_of p p-some h) z.1

pub differ_right : (p q : Pointers) (x : Pointer) → q ≢ no_pointer → IsOnly p x → HasNoneOrTwo q → Differ p q
differ_right p q x q-some one h = turned p q (two_and_one q p x (two_of q q-some h) one.member)

pub only_differ : (p q : Pointers) (x y : Pointer) → IsOnly p x → IsOnly q y → Differ p q ↔ (x ≢ y)
only_differ p q x y h k = (
  λ d e. d.differ (h.only d.left d.in_left ∙ (e ∙ sym (k.only d.right d.in_right))),
  λ n. record { left = x; right = y; in_left = h.member; in_right = k.member; differ = n },
)

pub same_value : (x y : PointerValue) → pointer_of x ≡ pointer_of y → x ≡ y
same_value Null Null e = refl
same_value Invalid Invalid e = refl
same_value (To a b) (To c d) e = (let f : a ≡ c = cc in let g : b ≡ d = cc in λ i. To (f i) (g i))
same_value Null Invalid e = cc
same_value Null (To a b) e = cc
same_value Invalid Null e = cc
same_value Invalid (To a b) e = cc
same_value (To a b) Null e = cc
same_value (To a b) Invalid e = cc

pub none_differ_left : (p q : Pointers) → p ≡ no_pointer → Differ p q → ⊥
none_differ_left p q e d = not_in_none d.left (subst (λ x. IsPointer x d.left) e d.in_left)

pub none_differ_right : (p q : Pointers) → q ≡ no_pointer → Differ p q → ⊥
none_differ_right p q e d = not_in_none d.right (subst (λ x. IsPointer x d.right) e d.in_right)
