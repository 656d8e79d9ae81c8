-- Two answers to one relation are equal.
use Rattle.std.proofs.Common.{◌≡◌, Bool, true, false, ℤ}
use Rattle.filters.specs.strided_dom.Combinations.{IsInBoth}
use Rattle.filters.specs.pointer_dom.Pointer.{Pointer}
use Rattle.filters.specs.pointer_dom.PointerSets.{Pointers, IsPointers}
use Rattle.filters.specs.pointer_dom.Values.{Values, IsValues, IsValuesMeet}
use Rattle.filters.specs.pointer_dom.Advances.{IsAdvance}
use Rattle.filters.specs.pointer_dom.Selections.{IsHullOfPointers}
use Rattle.filters.specs.pointer_dom.laws.OffsetLaws.{same_members}
use Rattle.filters.specs.pointer_dom.laws.PointerLaws.{pointers_order}
use Rattle.filters.proofs.low.pointer_dom.Meaning.{meet_one}
use Rattle.filters.proofs.low.pointer_dom.OperationMeaning.{advance_below, hull_below}
use Rattle.operator_values.specs.MetValues.{met_values, met_values_is, met_values_fit}
use Rattle.filters.specs.PointerPartners.{MayBeUnequal, ArePointersAssumed}
use Rattle.operator_values.specs.SetsOfPointers.{common_pointers, common_pointers_are, common_pointers_fit}
use Rattle.operator_values.specs.SetsOfPointers.{unequal_to, unequal_to_is, unequal_to_fits, left_pointers}
use Rattle.operator_values.specs.SetsOfPointers.{right_pointers}

module _ (Step : ℤ → Type 0) (p r r' : Pointers) (p-is : IsPointers p) (r-is : IsPointers r) (r'-is : IsPointers r')
  where
    -- here p is below itself
    pub one_advance : IsAdvance Step p r → IsAdvance Step p r' → r ≡ r'
    one_advance h h' =
        let same = pointers_order.reflexive p p-is in
        pointers_order.antisymmetric r r' r-is r'-is
        (advance_below Step Step (λ v k. k) p p same r r' r-is h h')
        (advance_below Step Step (λ v k. k) p p same r' r r'-is h' h)

module _ (P : Pointer → Type 0) (p r r' : Pointers) (p-is : IsPointers p) (r-is : IsPointers r) (r'-is : IsPointers r')
  where
    pub one_hull : IsHullOfPointers P p r → IsHullOfPointers P p r' → r ≡ r'
    one_hull h h' =
        let same = pointers_order.reflexive p p-is in
        pointers_order.antisymmetric r r' r-is r'-is
        (hull_below P P p p r r' (λ x k. k) r-is same h h') (hull_below P P p p r' r (λ x k. k) r'-is same h' h)

pub one_meet : (v w met : Values) → IsValues v → IsValues w → IsValues met → IsValuesMeet v w met → met ≡ met_values v w
one_meet v w met v-is w-is met-is h =
    let k = met_values_is v w in
    let numbers = same_members (IsInBoth v.numbers w.numbers) met.numbers (met_values v w).numbers h.numbers k.numbers in
    let pointers = meet_one v.pointers w.pointers met.pointers (met_values v w).pointers met-is
    (met_values_fit v w v-is w-is) h.pointers k.pointers in
    λ i. record { numbers = numbers i; pointers = pointers i }

-- what is left of both sides of a comparison
pub one_assumed : (equal : Bool) (p q left right : Pointers) → IsPointers p → IsPointers q → IsPointers left
    → IsPointers right → ArePointersAssumed equal p q left right
    → (left ≡ left_pointers equal p q) × (right ≡ right_pointers equal p q)
one_assumed true p q left right p-is q-is left-is right-is h =
    let k = common_pointers_are p q in
    let fits = common_pointers_fit p q p-is q-is in (
      meet_one p q left (common_pointers p q) left-is fits h.0 k,
      meet_one p q right (common_pointers p q) right-is fits h.1 k,
    )
one_assumed false p q left right p-is q-is left-is right-is h = (
  one_hull (MayBeUnequal p q) p left (unequal_to q p) p-is left-is (unequal_to_fits q p p-is) h.0 (unequal_to_is q p),
  one_hull (MayBeUnequal q p) q right (unequal_to p q) q-is right-is (unequal_to_fits p q q-is) h.1 (unequal_to_is p q),
)
