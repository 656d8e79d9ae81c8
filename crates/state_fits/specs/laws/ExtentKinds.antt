-- Extents are kinds: nothing lies within each, with a value all that is less, and joins.
use Rattle.std.proofs.Common.{◌≡◌, refl, sym, ap, subst, ◌∙◌, ℕ, ℤ, List, arith}
use Rattle.std.specs.Prelude.{◌≤ℤ◌}
use Rattle.std.proofs.lemmas.Int.{ints}
use Rattle.value_heights.specs.strided_dom.Progression.{Progression, empty, Has, IsSubset, IsExactly}
use Rattle.value_heights.proofs.low.strided_dom.Members.{not_in_empty}
use Rattle.temporary_types.specs.tm_cint.declared.int_types.IntType.TheVariants as Ints
use Rattle.temporary_types.specs.tm_typed.declared.types.Scalar.TheVariants as Scalars
use Rattle.temporary_types.specs.tm_laid.Layouts.{LaidTree}
use Rattle.value_heights.specs.pointer_dom.PointerSets.{Pointers as PointerSet, IsPointers, no_pointer, IsPointersBelow}
use Rattle.value_heights.specs.pointer_dom.PointerSets.{joined_pointers}
use Rattle.value_heights.specs.pointer_dom.StridedSets.{hull}
use Rattle.value_heights.specs.pointer_dom.Values.{Values, IsValues, IsValuesBelow, no_value, joined_values}
use Rattle.value_heights.specs.pointer_dom.laws.OffsetLaws.{below_empty, hull_least}
use Rattle.value_heights.specs.pointer_dom.laws.Existence.{spaced_exists}
use Rattle.operator_values.proofs.low.transfer_int.Inside.{unspaced}
use Rattle.typed_values.specs.transfer_int.Operands.{AreValues}
use Rattle.typed_values.specs.Types.{AreObjects, IsOfType}
use Rattle.typed_values.specs.laws.TypeLaws.{none_of_type, typed_values, typed_objects, joined_of_type, less_of_type}
use Rattle.temporary_extents.specs.declared.extents.Extent.{Extent}
use Rattle.temporary_extents.specs.declared.extents.Extent.TheVariants.{Nothing, Between, Pointers}
use Rattle.temporary_extents.specs.Extents.{extent_at, AreBetween, IsWithin}
use Rattle.state_fits.specs.Fits.{AreKinds}
use Rattle.state_fits.specs.Kinds.{InExtents}

no_numbers : AreValues Ints.Int empty
no_numbers = record { all = λ v p. absurd (not_in_empty v p) }

module _ (laid : LaidTree) where
  -- the pointers of a value, alone
  abbrev alone_of : Values → Values
  alone_of v = record { numbers = empty; pointers = v.pointers }

  as_numbers : (v : Values) → v.pointers ≡ no_pointer → IsOfType laid (Scalars.Int Ints.Int) (alone_of v)
  as_numbers v h = (no_numbers, h)

  none_within : (e : Extent) → IsWithin laid e no_value
  none_within Nothing = refl
  none_within (Between low high) = record { all = λ z p. absurd (not_in_empty z p); alone = refl }
  none_within Pointers = none_of_type laid (Scalars.Pointer 0)

  values_within : (e : Extent) (v : Values) → IsWithin laid e v → IsValues v
  values_within Nothing v h = typed_values laid (Scalars.Int Ints.Int) v
      (subst (IsOfType laid (Scalars.Int Ints.Int)) (sym h) (none_of_type laid (Scalars.Int Ints.Int)))
  values_within (Between low high) v h = typed_values laid (Scalars.Int Ints.Int) (alone_of v) (as_numbers v h.alone)
  values_within Pointers v h = typed_values laid (Scalars.Pointer 0) v h

  objects_within : (e : Extent) (v : Values) → IsWithin laid e v → AreObjects laid v.pointers
  objects_within Nothing v h = typed_objects laid (Scalars.Int Ints.Int) v
      (subst (IsOfType laid (Scalars.Int Ints.Int)) (sym h) (none_of_type laid (Scalars.Int Ints.Int)))
  objects_within (Between low high) v h = typed_objects laid (Scalars.Int Ints.Int) (alone_of v) (as_numbers v h.alone)
  objects_within Pointers v h = typed_objects laid (Scalars.Pointer 0) v h

  none_alone : (v w : Values) → w.pointers ≡ no_pointer → IsValues v → AreObjects laid v.pointers → IsValuesBelow v w
      → v.pointers ≡ no_pointer
  none_alone v w h v-is v-are le =
      (less_of_type laid (Scalars.Int Ints.Int) (alone_of v) (alone_of w) (as_numbers w h) v-is v-are
      (record { numbers = record { within = λ z p. p }; pointers = le.pointers })).1

  less_within : (e : Extent) (v w : Values) → IsWithin laid e w → IsValues v → AreObjects laid v.pointers
      → IsValuesBelow v w → IsWithin laid e v
  less_within Nothing v w h v-is v-are le =
      let numbers : v.numbers ≡ empty = below_empty v.numbers w.numbers le.numbers (ap (λ (x : Values). x.numbers) h) in
      let pointers : v.pointers ≡ no_pointer =
      none_alone v w (ap (λ (x : Values). x.pointers) h) v-is v-are le in
      (λ i. record { numbers = numbers i; pointers = pointers i })
  less_within (Between low high) v w h v-is v-are le = record {
    all = λ z p. h.all z (le.numbers.within z p);
    alone = none_alone v w h.alone v-is v-are le;
  }
  less_within Pointers v w h v-is v-are le = less_of_type laid (Scalars.Pointer 0) v w h v-is v-are le

  -- numbers between two ends have a hull there
  hull_between : (low high : ℤ) (s u : Progression) → ((z : ℤ) → Has s z → (low ≤ℤ z) × (z ≤ℤ high))
      → ((z : ℤ) → Has u z → (low ≤ℤ z) × (z ≤ℤ high)) → (z : ℤ) → Has (hull s u) z → (low ≤ℤ z) × (z ≤ℤ high)
  hull_between low high s u h k z p =
      let all = spaced_exists low high 1 in
      let is : IsExactly (λ v. (low ≤ℤ v) × (v ≤ℤ high)) all.0 =
      unspaced (λ v. (low ≤ℤ v) × (v ≤ℤ high)) low high all.0 (λ v from to. (from, to)) (λ v q. q) all.1 in
      is.sound z ((hull_least s u all.0 (record { within = λ v q. is.complete v (h v q) })
      (record { within = λ v q. is.complete v (k v q) })).within z p)

  joined_within : (e : Extent) (v w : Values) → IsWithin laid e v → IsWithin laid e w
      → IsWithin laid e (joined_values v w)
  joined_within Nothing v w h k =
      subst (λ (x : Values). joined_values x w ≡ no_value) (sym h)
      (subst (λ (x : Values). joined_values no_value x ≡ no_value) (sym k) none_joined)
    where
      none_joined : joined_values no_value no_value ≡ no_value
      none_joined =
          let j = joined_of_type laid (Scalars.Pointer 0) no_value no_value (none_of_type laid (Scalars.Pointer 0))
          (none_of_type laid (Scalars.Pointer 0)) in
          let i = joined_of_type laid (Scalars.Int Ints.Int) no_value no_value
          (none_of_type laid (Scalars.Int Ints.Int)) (none_of_type laid (Scalars.Int Ints.Int)) in
          (λ k. record { numbers = j.0 k; pointers = i.1 k })
  joined_within (Between low high) v w h k = record {
    all = hull_between low high v.numbers w.numbers h.all k.all;
    alone = (joined_of_type laid (Scalars.Int Ints.Int) (alone_of v) (alone_of w) (as_numbers v h.alone)
        (as_numbers w k.alone)).1;
  }
  joined_within Pointers v w h k = joined_of_type laid (Scalars.Pointer 0) v w h k

  pub extents_are_kinds : (extents : List Extent) → AreKinds laid (InExtents laid extents)
  extents_are_kinds extents = record {
    none = λ t. none_within (extent_at extents t);
    values = λ t v h. values_within (extent_at extents t) v h;
    objects = λ t v h. objects_within (extent_at extents t) v h;
    less = λ t v w h v-is v-are le. less_within (extent_at extents t) v w h v-is v-are le;
    joined = λ t v w h k. joined_within (extent_at extents t) v w h k;
  }
