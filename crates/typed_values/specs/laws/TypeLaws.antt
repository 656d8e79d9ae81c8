-- Values of a type stay so: joined, rounded, met, and as the results of operators.
use Rattle.std.proofs.Common.{◌≡◌, ℕ, ℤ, pos, List, refl, sym, ap, subst, ◌∙◌}
use Rattle.std.specs.Prelude.{Bool}
use Rattle.std.specs.FinMap.{empty as no_entry, get-empty}
use Rattle.std.specs.Ordering.{nat_cmp}
use Rattle.operator_values.specs.strided_dom.Progression.{Progression, empty, Has, IsSubset, first_of}
use Rattle.operator_values.specs.strided_dom.Rounding.{IsInRounding}
use Rattle.operator_values.proofs.low.strided_dom.Members.{no_member, not_in_empty}
use Rattle.tm_typed.specs.tm_lattice.Tables.{IsEntry}
use Rattle.tm_cint.specs.declared.int_types.IntType.{IntType}
use Rattle.tm_cint.specs.declared.operators.BinOp.{BinOp}
use Rattle.tm_typed.specs.declared.types.Scalar.{Scalar}
use Rattle.tm_typed.specs.declared.types.Scalar.TheVariants.{Int, Pointer}
use Rattle.tm_laid.specs.Layouts.{LaidTree}
use Rattle.operator_values.specs.transfer_int.Operands.{AreValues}
use Rattle.operator_values.specs.pointer_dom.StridedSets.{hull, rounding, rounding_is}
use Rattle.operator_values.specs.pointer_dom.OffsetSets.{IsOffsetSet, HasNoOffset}
use Rattle.operator_values.specs.pointer_dom.PointerSets.{Pointers, IsPointers, no_pointer, joined_pointers}
use Rattle.operator_values.specs.pointer_dom.PointerSets.{rounded_pointers, IsPointersBelow}
use Rattle.operator_values.specs.pointer_dom.Values.{Values, IsValues, IsValuesBelow, no_value, joined_values}
use Rattle.operator_values.specs.pointer_dom.Values.{rounded_values}
use Rattle.operator_values.specs.pointer_dom.laws.OffsetLaws.{below_empty, hull_least}
use Rattle.operator_values.specs.pointer_dom.laws.PointerLaws.{pointers_order, pointers_join, pointers_closure}
use Rattle.operator_values.specs.pointer_dom.laws.PointerLaws.{pointers_nothing}
use Rattle.operator_values.specs.MetValues.{met_values, met_values_is, met_values_fit}
use Rattle.operator_values.proofs.low.pointer_dom.Meaning.{meet_below}
use Rattle.typed_values.specs.Types.{AreObjects, IsOfType, HaveSameValues, HaveEnds}
use Rattle.typed_values.specs.laws.NumbersInTypes.{values_less, hull_values, rounding_values}
use Rattle.typed_values.specs.laws.ObjectsKept.{joined_objects, rounded_objects, none_objects, common_objects}
use Rattle.typed_values.specs.laws.ObjectsKept.{no_objects}

none_is : IsPointers no_pointer
none_is key = subst (IsEntry IsOffsetSet HasNoOffset) (sym (get-empty nat_cmp key)) tt

no_numbers : (t : IntType) → AreValues t empty
no_numbers t = record { all = λ v p. absurd (not_in_empty v p) }

-- two sets without a number, and without a pointer
no_hull : (s u : Progression) → s ≡ empty → u ≡ empty → hull s u ≡ empty
no_hull s u a b =
    below_empty (hull s u) empty
    (hull_least s u empty (subst (λ x. IsSubset x empty) (sym a) same)
    (subst (λ x. IsSubset x empty) (sym b) same)) refl
  where
    same : IsSubset empty empty
    same = record { within = λ v p. p }

no_join : (p q : Pointers) → p ≡ no_pointer → q ≡ no_pointer → joined_pointers p q ≡ no_pointer
no_join p q a b =
    let both : joined_pointers no_pointer no_pointer ≡ no_pointer =
    pointers_order.antisymmetric (joined_pointers no_pointer no_pointer) no_pointer
    (pointers_join.value no_pointer no_pointer none_is none_is) none_is
    (pointers_join.least no_pointer no_pointer no_pointer none_is none_is none_is
    (pointers_order.reflexive no_pointer none_is) (pointers_order.reflexive no_pointer none_is))
    (pointers_join.left no_pointer no_pointer none_is none_is) in
    ap (λ x. joined_pointers x q) a ∙ (ap (joined_pointers no_pointer) b ∙ both)

no_rounding : (marks : List ℤ) (s : Progression) → s ≡ empty → rounding marks s ≡ empty
no_rounding marks s none =
    no_member (rounding marks s)
    (λ v p. not_in_empty (first_of s) (subst (λ x. Has x (first_of s)) none ((rounding_is marks s).sound v p).some))

module _ (laid : LaidTree) where
  -- nothing is of every type
  pub none_of_type : (scalar : Scalar) → IsOfType laid scalar no_value
  none_of_type (Int t) = (no_numbers t, refl)
  none_of_type (Pointer c) = (refl, none_is, none_objects laid)

  -- a value of a type is a set of values, with objects of the program
  pub typed_values : (scalar : Scalar) (v : Values) → IsOfType laid scalar v → IsValues v
  typed_values (Int t) v h = subst IsPointers (sym h.1) none_is
  typed_values (Pointer c) v h = h.1

  pub typed_objects : (scalar : Scalar) (v : Values) → IsOfType laid scalar v → AreObjects laid v.pointers
  typed_objects (Int t) v h = no_objects laid v.pointers h.1
  typed_objects (Pointer c) v h = h.2

  -- types with the same values
  pub same_type : (s u : Scalar) (v : Values) → HaveSameValues s u → IsOfType laid s v → IsOfType laid u v
  same_type (Int t) (Int u) v same h = (subst (λ x. AreValues x v.numbers) same h.0, h.1)
  same_type (Int t) (Pointer d) v same h = absurd same
  same_type (Pointer c) (Int u) v same h = absurd same
  same_type (Pointer c) (Pointer d) v same h = h

  pub joined_of_type : (scalar : Scalar) (v w : Values) → IsOfType laid scalar v → IsOfType laid scalar w
      → IsOfType laid scalar (joined_values v w)
  joined_of_type (Int t) v w h k = (hull_values t v.numbers w.numbers h.0 k.0, no_join v.pointers w.pointers h.1 k.1)
  joined_of_type (Pointer c) v w h k = (
    no_hull v.numbers w.numbers h.0 k.0,
    pointers_join.value v.pointers w.pointers h.1 k.1,
    joined_objects laid v.pointers w.pointers h.2 k.2,
  )

  pub rounded_of_type : (marks : List ℤ) (scalar : Scalar) (v : Values) → HaveEnds marks → IsOfType laid scalar v
      → IsOfType laid scalar (rounded_values marks v)
  rounded_of_type marks (Int t) v ends h = (
    rounding_values t marks v.numbers (ends.least t) (ends.greatest t) h.0,
    pointers_nothing.rounding marks v.pointers tt (subst IsPointers (sym h.1) none_is) h.1,
  )
  rounded_of_type marks (Pointer c) v ends h = (
    no_rounding marks v.numbers h.0,
    pointers_closure.value marks v.pointers tt h.1,
    rounded_objects laid marks v.pointers h.2,
  )

  -- what lies below a value of a type, with objects of the program
  pub less_of_type : (scalar : Scalar) (v w : Values) → IsOfType laid scalar w → IsValues v
      → AreObjects laid v.pointers → IsValuesBelow v w → IsOfType laid scalar v
  less_of_type (Int t) v w h v-is v-are le =
      let none : IsPointersBelow v.pointers no_pointer = subst (IsPointersBelow v.pointers) h.1 le.pointers in (
        values_less t v.numbers w.numbers le.numbers h.0,
        pointers_order.antisymmetric v.pointers no_pointer v-is none_is none
            (pointers_nothing.below no_pointer v.pointers none_is v-is refl),
      )
  less_of_type (Pointer c) v w h v-is v-are le = (below_empty v.numbers w.numbers le.numbers h.0, v-is, v-are)

  -- what two values have in common
  pub met_of_type : (scalar : Scalar) (v w : Values) → IsOfType laid scalar v → IsValues w
      → AreObjects laid w.pointers → IsOfType laid scalar (met_values v w)
  met_of_type scalar v w h w-is w-are =
      let v-is = typed_values scalar v h in
      let m = met_values_is v w in
      let m-is = met_values_fit v w v-is w-is in
      less_of_type scalar (met_values v w) v h m-is
      (common_objects laid v.pointers w.pointers v-is w-is (typed_objects scalar v h) w-are)
      record {
        numbers = record { within = λ k p. (m.numbers.sound k p).0 };
        pointers = (meet_below v.pointers w.pointers (met_values v w).pointers m-is m.pointers).0;
      }
