-- The forms of a value, and values of one kind.
use Rattle.std.proofs.Common.{◌≡◌, false, IsTrue, List, ℤ, refl, sym, ap, subst, ◌∙◌}
use Rattle.std.specs.Ordering.{nat_cmp}
use Rattle.std.specs.FinMap as map
use Rattle.strided_dom.specs.Progression.{Progression, IsExactly, IsHull}
use Rattle.strided_dom.specs.Combinations.{IsInEither}
use Rattle.strided_dom.specs.Rounding.{IsInRounding}
use Rattle.tm_lattice.specs.Tables.{IsEntry, IsBelow}
use Rattle.pointer_dom.specs.declared.abs_value.Parts.{Parts}
use Rattle.pointer_dom.specs.declared.abs_value.Parts.TheVariants.{Int, Ptr, Both}
use Rattle.pointer_dom.specs.OffsetSets.{IsOffsetSet, HasNoOffset, IsOffsetsBelow}
use Rattle.pointer_dom.specs.laws.OffsetLaws.{same_hull, same_members}
use Rattle.pointer_dom.specs.StridedSets.{hull, hull_is, rounding, rounding_is}
use Rattle.pointer_dom.specs.PointerSets.{Pointers, IsPointers, IsPointersBelow, no_pointer, joined_pointers, rounded_pointers}
use Rattle.pointer_dom.specs.laws.PointerLaws.{pointers_order, pointers_nothing}
use Rattle.pointer_dom.specs.Values.{Values, IsValues, joined_values, rounded_values}
use Rattle.pointer_dom.specs.Forms.{values_of, IsNormal}

pub no_pointer_is : IsPointers no_pointer
no_pointer_is key = subst (λ at. IsEntry (λ o. IsOffsetSet o) HasNoOffset at) (sym (map.get-empty nat_cmp key)) tt

pub values_is : (parts : Parts) → IsNormal parts → IsValues (values_of parts)
values_is (Int s) h = no_pointer_is
values_is (Ptr p) h = h.0
values_is (Both s p) h = h.1

not_false : IsTrue false → ⊥
not_false e = cc

pub none_below : (q : Pointers) → IsPointersBelow no_pointer q
none_below q = record {
  null = λ e. absurd (not_false e);
  invalid = λ e. absurd (not_false e);
  objects = λ key. subst (λ at. IsBelow (λ o p. IsOffsetsBelow o p) at (map.get q.objects key)) (sym (map.get-empty nat_cmp key)) tt;
}

pub below_none : (p : Pointers) → IsPointers p → IsPointersBelow p no_pointer → p ≡ no_pointer
below_none p p-is h = pointers_order.antisymmetric p no_pointer p-is no_pointer_is h (none_below p)

pub none_rounded : (marks : List ℤ) → no_pointer ≡ rounded_pointers marks no_pointer
none_rounded marks = sym (pointers_nothing.rounding marks no_pointer tt no_pointer_is refl)

pub rounded_by : (marks : List ℤ) (v : Values) (s r : Progression) (p q : Pointers) → v ≡ record { numbers = s; pointers = p } → IsExactly (IsInRounding marks s) r → q ≡ rounded_pointers marks p
    → ◌≡◌ {A = Values} (record { numbers = r; pointers = q }) (rounded_values marks v)
rounded_by marks v s r p q v-is exact e =
    let same = same_members (IsInRounding marks s) r (rounding marks s) exact (rounding_is marks s) in
    let parts : ◌≡◌ {A = Values} (record { numbers = r; pointers = q }) (rounded_values marks record { numbers = s; pointers = p }) = λ i. record { numbers = same i; pointers = e i } in
    parts ∙ ap (rounded_values marks) (sym v-is)

pub joined_by : (v w : Values) (s t r : Progression) (p q both : Pointers) → s ≡ v.numbers → t ≡ w.numbers → p ≡ v.pointers → q ≡ w.pointers → IsHull (IsInEither s t) r → both ≡ joined_pointers p q
    → ◌≡◌ {A = Values} (record { numbers = r; pointers = both }) (joined_values v w)
joined_by v w s t r p q both s-is t-is p-is q-is h e =
    let sets = same_hull (IsInEither s t) r (hull s t) h (hull_is s t) ∙ ap (λ x. hull x t) s-is ∙ ap (hull v.numbers) t-is in
    let others = e ∙ ap (λ x. joined_pointers x q) p-is ∙ ap (joined_pointers v.pointers) q-is in
    λ i. record { numbers = sets i; pointers = others i }
