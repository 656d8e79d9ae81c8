-- What order, join, meet and rounding mean for the pointers in sets.
use Rattle.std.proofs.Common.{◌≡◌, ◌↔◌, ◌⊎◌, ⊎_elim, ℕ, ◌≤◌, Bool, true, false, ◌&&◌, IsTrue, List, Option, Some, None, ℤ, pos, nat_abs, ◌≤ℤ◌, refl, sym, ap, ◌∙◌, subst, arith}
use Rattle.std.proofs.lemmas.Int.{ints}
use Rattle.std.specs.FinMap as map
use Rattle.std.specs.Option.{option_map}
use Rattle.strided_dom.specs.Progression.{Has, first_of}
use Rattle.strided_dom.proofs.Members.{some_or_empty, not_in_empty}
use Rattle.tm_lattice.specs.Tables.{IsEntry, IsBelow}
use Rattle.tm_lattice.specs.laws.TableLaws.{get-rounded_table}
use Rattle.pointer_dom.specs.Pointer.{Pointer, null, invalid, to, ScalarValue, number, pointer}
use Rattle.pointer_dom.specs.OffsetSets.{OffsetSet, IsOffsetSet, HasNoOffset, IsOffsetsBelow, rounded_offsets}
use Rattle.pointer_dom.specs.PointerSets.{Pointers, IsPointers, IsPointer, IsPointersBelow, IsMeet, IsMeetAt, HaveEqualSizes, offsets_or_none, offsets_at, joined_pointers, rounded_pointers}
use Rattle.pointer_dom.specs.laws.PointerLaws.{pointers_order, pointers_join, pointers_closure}
use Rattle.pointer_dom.specs.Values.{Values, IsValues, IsValueIn, IsValuesBelow, IsValuesMeet, joined_values, rounded_values}
use Rattle.pointer_dom.specs.laws.ValueLaws.{values_join, values_closure}

-- what is in a smaller set is in a greater one
below_at : (a b : Option OffsetSet) → IsBelow (λ o p. IsOffsetsBelow o p) a b → (v : ℤ) → Has (offsets_or_none a).offsets v → Has (offsets_or_none b).offsets v
below_at None b h v m = absurd (not_in_empty v m)
below_at (Some o) None h v m = absurd h
below_at (Some o) (Some p) h v m = h.offsets.within v m

pub included : (p q : Pointers) (v : Pointer) → IsPointersBelow p q → IsPointer p v → IsPointer q v
included p q null h m = h.null m
included p q invalid h m = h.invalid m
included p q (to object offset) h m = below_at (map.get p.objects object) (map.get q.objects object) (h.objects object) (pos offset) m

-- a set of which each pointer is in another one is below it
not_negative : (v : ℤ) → pos 0 ≤ℤ v → v ≡ pos (nat_abs v)
not_negative v h = omega (arith, ints)

at_below : (a b : Option OffsetSet) → IsEntry (λ o. IsOffsetSet o) HasNoOffset a → ((o o' : OffsetSet) → a ≡ Some o → b ≡ Some o' → o.size ≡ o'.size)
    → ((offset : ℕ) → Has (offsets_or_none a).offsets (pos offset) → Has (offsets_or_none b).offsets (pos offset)) → IsBelow (λ o p. IsOffsetsBelow o p) a b
at_below None b a-is sizes h = tt
at_below (Some o) None a-is sizes h = ⊎_elim
    (λ some. not_in_empty _ (h (nat_abs (first_of o.offsets)) (subst (λ v. Has o.offsets v) (not_negative (first_of o.offsets) (a-is.0.within _ some).from) some)))
    (λ none. a-is.1 none) (some_or_empty o.offsets)
at_below (Some o) (Some p) a-is sizes h = record {
  size = (let e = sizes o p refl refl in omega (arith, e));
  offsets = record {
    within = λ v m. (let e = not_negative v (a-is.0.within v m).from in subst (λ w. Has p.offsets w) (sym e) (h (nat_abs v) (subst (λ w. Has o.offsets w) e m)));
  };
}

pub below_from : (p q : Pointers) → IsPointers p → HaveEqualSizes p q → ((v : Pointer) → IsPointer p v → IsPointer q v) → IsPointersBelow p q
below_from p q p-is sizes h = record {
  null = h null;
  invalid = h invalid;
  objects = λ object. at_below (map.get p.objects object) (map.get q.objects object) (p-is object) (sizes object) (λ offset. h (to object offset));
}

pub in_join : (p q : Pointers) (v : Pointer) → IsPointers p → IsPointers q → IsPointer p v ⊎ IsPointer q v → IsPointer (joined_pointers p q) v
in_join p q v p-is q-is h = ⊎_elim
    (λ m. included p (joined_pointers p q) v (pointers_join.left p q p-is q-is) m)
    (λ m. included q (joined_pointers p q) v (pointers_join.right p q p-is q-is) m) h

-- the meet
and_true : (a b c : Bool) → c ≡ (a && b) → IsTrue c ↔ (IsTrue a × IsTrue b)
and_true true b c e = (λ m. (refl, sym e ∙ m), λ m. e ∙ m.1)
and_true false b c e = (λ m. (sym e ∙ m, absurd (let f : false ≡ true = sym e ∙ m in cc)), λ m. e ∙ m.0)

pub in_meet : (p q met : Pointers) (v : Pointer) → IsMeet p q met → IsPointer met v ↔ (IsPointer p v × IsPointer q v)
in_meet p q met null h = and_true p.null q.null met.null h.null
in_meet p q met invalid h = and_true p.invalid q.invalid met.invalid h.invalid
in_meet p q met (to object offset) h = (
  λ m. (h.objects object).offsets.sound (pos offset) m,
  λ m. (h.objects object).offsets.complete (pos offset) m,
)

-- where something is met, it is below both
meet_at_below : (a b r : Option OffsetSet) → IsEntry (λ o. IsOffsetSet o) HasNoOffset r → IsMeetAt a b r → IsBelow (λ o p. IsOffsetsBelow o p) r a × IsBelow (λ o p. IsOffsetsBelow o p) r b
meet_at_below a b None r-is h = (tt, tt)
meet_at_below None b (Some r) r-is h = absurd (⊎_elim (λ some. not_in_empty _ (h.offsets.sound _ some).0) (λ none. r-is.1 none) (some_or_empty r.offsets))
meet_at_below (Some o) None (Some r) r-is h = absurd (⊎_elim (λ some. not_in_empty _ (h.offsets.sound _ some).1) (λ none. r-is.1 none) (some_or_empty r.offsets))
meet_at_below (Some o) (Some p) (Some r) r-is h =
    let size = h.some r-is.1 in (
      record { size = omega (arith, size); offsets = record { within = λ v m. (h.offsets.sound v m).0 } },
      record { size = omega (arith, size); offsets = record { within = λ v m. (h.offsets.sound v m).1 } },
    )

pub meet_below : (p q met : Pointers) → IsPointers met → IsMeet p q met → IsPointersBelow met p × IsPointersBelow met q
meet_below p q met met-is h = (
  record {
    null = λ m. ((in_meet p q met null h).0 m).0;
    invalid = λ m. ((in_meet p q met invalid h).0 m).0;
    objects = λ object. (meet_at_below (map.get p.objects object) (map.get q.objects object) (map.get met.objects object) (met-is object) (h.objects object)).0;
  },
  record {
    null = λ m. ((in_meet p q met null h).0 m).1;
    invalid = λ m. ((in_meet p q met invalid h).0 m).1;
    objects = λ object. (meet_at_below (map.get p.objects object) (map.get q.objects object) (map.get met.objects object) (met-is object) (h.objects object)).1;
  },
)

-- what is below both is below the meet
at_greatest : (a b r c : Option OffsetSet) → IsEntry (λ o. IsOffsetSet o) HasNoOffset c → IsMeetAt a b r → IsBelow (λ o p. IsOffsetsBelow o p) c a → IsBelow (λ o p. IsOffsetsBelow o p) c b → IsBelow (λ o p. IsOffsetsBelow o p) c r
at_greatest a b r None c-is h k l = tt
at_greatest None b r (Some o) c-is h k l = absurd k
at_greatest (Some p) None r (Some o) c-is h k l = absurd l
at_greatest (Some p) (Some q) None (Some o) c-is h k l =
    ⊎_elim (λ some. not_in_empty _ (h.offsets.complete _ (k.offsets.within _ some, l.offsets.within _ some))) (λ none. c-is.1 none) (some_or_empty o.offsets)
at_greatest (Some p) (Some q) (Some r) (Some o) c-is h k l =
    let within = λ (v : ℤ) (m : Has o.offsets v). h.offsets.complete v (k.offsets.within v m, l.offsets.within v m) in
    let size = h.some (λ none. ⊎_elim (λ some. not_in_empty _ (subst (λ x. Has x (first_of o.offsets)) none (within _ some))) (λ none'. c-is.1 none') (some_or_empty o.offsets)) in
    record { size = omega (arith, size, k.size, l.size); offsets = record { within = within } }

pub meet_greatest : (p q met below : Pointers) → IsPointers below → IsMeet p q met → IsPointersBelow below p → IsPointersBelow below q → IsPointersBelow below met
meet_greatest p q met below below-is h k l = record {
  null = λ m. (in_meet p q met null h).1 (k.null m, l.null m);
  invalid = λ m. (in_meet p q met invalid h).1 (k.invalid m, l.invalid m);
  objects = λ object. at_greatest (map.get p.objects object) (map.get q.objects object) (map.get met.objects object) (map.get below.objects object) (below-is object) (h.objects object) (k.objects object) (l.objects object);
}

pub meet_one : (p q met met' : Pointers) → IsPointers met → IsPointers met' → IsMeet p q met → IsMeet p q met' → met ≡ met'
meet_one p q met met' met-is met'-is h h' =
    let a = meet_below p q met met-is h in
    let b = meet_below p q met' met'-is h' in
    pointers_order.antisymmetric met met' met-is met'-is (meet_greatest p q met' met met-is h' a.0 a.1) (meet_greatest p q met met' met'-is h b.0 b.1)

-- roundings
pub in_rounded : (marks : List ℤ) (p : Pointers) (v : Pointer) → IsPointers p → IsPointer p v → IsPointer (rounded_pointers marks p) v
in_rounded marks p v p-is m = included p (rounded_pointers marks p) v (pointers_closure.extensive marks p tt p-is) m

within_at : (a : Option OffsetSet) (offset : ℕ) → IsEntry (λ o. IsOffsetSet o) HasNoOffset a → Has (offsets_or_none a).offsets (pos offset) → offset ≤ (offsets_or_none a).size
within_at None offset a-is m = absurd (not_in_empty _ m)
within_at (Some o) offset a-is m = (let h = (a-is.0.within (pos offset) m).to in omega (arith, ints, h))

pub in_object : (p : Pointers) (object offset : ℕ) → IsPointers p → IsPointer p (to object offset) → offset ≤ (offsets_at p object).size
in_object p object offset p-is m = within_at (map.get p.objects object) offset (p-is object) m

rounded_at : (marks : List ℤ) (a : Option OffsetSet) → (offsets_or_none (option_map (rounded_offsets marks) a)).size ≡ (offsets_or_none a).size
rounded_at marks None = refl
rounded_at marks (Some o) = refl

pub rounded_in_object : (marks : List ℤ) (p : Pointers) (object offset : ℕ) → IsPointers p → IsPointer (rounded_pointers marks p) (to object offset) → offset ≤ (offsets_at p object).size
rounded_in_object marks p object offset p-is m =
    subst (λ size. offset ≤ size)
    (ap (λ a. (offsets_or_none a).size) (get-rounded_table (rounded_offsets marks) p.objects object) ∙ rounded_at marks (map.get p.objects object))
    (in_object (rounded_pointers marks p) object offset (pointers_closure.value marks p tt p-is) m)

-- values
pub value_included : (v w : Values) (x : ScalarValue) → IsValuesBelow v w → IsValueIn v x → IsValueIn w x
value_included v w (number n) h m = h.numbers.within n m
value_included v w (pointer p) h m = included v.pointers w.pointers p h.pointers m

pub value_below_from : (v w : Values) → IsValues v → HaveEqualSizes v.pointers w.pointers → ((x : ScalarValue) → IsValueIn v x → IsValueIn w x) → IsValuesBelow v w
value_below_from v w v-is sizes h = record {
  numbers = record { within = λ n. h (number n) };
  pointers = below_from v.pointers w.pointers v-is sizes (λ p. h (pointer p));
}

pub in_value_join : (v w : Values) (x : ScalarValue) → IsValues v → IsValues w → IsValueIn v x ⊎ IsValueIn w x → IsValueIn (joined_values v w) x
in_value_join v w x v-is w-is h = ⊎_elim
    (λ m. value_included v (joined_values v w) x (values_join.left v w v-is w-is) m)
    (λ m. value_included w (joined_values v w) x (values_join.right v w v-is w-is) m) h

pub in_value_meet : (v w met : Values) (x : ScalarValue) → IsValuesMeet v w met → IsValueIn met x ↔ (IsValueIn v x × IsValueIn w x)
in_value_meet v w met (number n) h = (λ m. h.numbers.sound n m, λ m. h.numbers.complete n m)
in_value_meet v w met (pointer p) h = in_meet v.pointers w.pointers met.pointers p h.pointers

pub in_value_rounded : (marks : List ℤ) (v : Values) (x : ScalarValue) → IsValues v → IsValueIn v x → IsValueIn (rounded_values marks v) x
in_value_rounded marks v x v-is m = value_included v (rounded_values marks v) x (values_closure.extensive marks v tt v-is) m
