-- Sets of pointers meet the laws of a lattice.
use Rattle.std.specs.Prelude.{◌≡◌, Bool, true, false, ◌||◌, IsTrue, List, ℤ}
use Rattle.std.proofs.Common.{refl, sym, ap, ◌∙◌}
use Rattle.std.specs.FinMap as map
use Rattle.tm_lattice.specs.LatticeLaws.{IsOrder, IsJoin, IsClosure, IsLeastNothing}
use Rattle.tm_lattice.specs.laws.TableLaws.{table_order, table_join, table_closure, table_nothing}
use Rattle.tm_lattice.specs.Tables.{IsTable, IsTableBelow, joined_table, rounded_table}
use Rattle.pointer_dom.specs.OffsetSets.{IsOffsetSet, HasNoOffset, IsOffsetsBelow, joined_offsets, rounded_offsets}
use Rattle.pointer_dom.specs.laws.OffsetLaws.{offsets_order, offsets_join, offsets_closure, offsets_nothing}
use Rattle.pointer_dom.specs.PointerSets.{IsPointers, no_pointer, IsPointersBelow, joined_pointers, rounded_pointers}

abbrev AnyMarks : List ℤ → Type 0
AnyMarks marks = Unit {0}

objects_order : IsOrder (IsTable IsOffsetSet HasNoOffset) (IsTableBelow IsOffsetsBelow)
objects_order = table_order (λ o. IsOffsetSet o) AnyMarks (λ o p. IsOffsetsBelow o p) joined_offsets rounded_offsets
    HasNoOffset
    offsets_order offsets_join offsets_closure offsets_nothing

objects_join : IsJoin (IsTable IsOffsetSet HasNoOffset) (IsTableBelow IsOffsetsBelow) (joined_table joined_offsets)
objects_join = table_join (λ o. IsOffsetSet o) AnyMarks (λ o p. IsOffsetsBelow o p) joined_offsets rounded_offsets
    HasNoOffset
    offsets_order offsets_join offsets_closure offsets_nothing

objects_closure : IsClosure (IsTable IsOffsetSet HasNoOffset) AnyMarks (IsTableBelow IsOffsetsBelow)
    (λ marks. rounded_table (rounded_offsets marks))
objects_closure = table_closure (λ o. IsOffsetSet o) AnyMarks (λ o p. IsOffsetsBelow o p) joined_offsets
    rounded_offsets HasNoOffset
    offsets_order offsets_join offsets_closure offsets_nothing

objects_nothing : IsLeastNothing (IsTable IsOffsetSet HasNoOffset) AnyMarks (IsTableBelow IsOffsetsBelow)
    (λ marks. rounded_table (rounded_offsets marks)) (λ t. t ≡ map.empty)
objects_nothing = table_nothing (λ o. IsOffsetSet o) AnyMarks (λ o p. IsOffsetsBelow o p) joined_offsets
    rounded_offsets HasNoOffset
    offsets_order offsets_join offsets_closure offsets_nothing

or_left : (a b : Bool) → IsTrue a → IsTrue (a || b)
or_left true b p = refl
or_left false b p = cc

or_right : (a b : Bool) → IsTrue b → IsTrue (a || b)
or_right true b p = refl
or_right false b p = p

or_least : (a b c : Bool) → (IsTrue a → IsTrue c) → (IsTrue b → IsTrue c) → IsTrue (a || b) → IsTrue c
or_least true b c p q r = p refl
or_least false b c p q r = q r

pub same_flag : (a b : Bool) → (IsTrue a → IsTrue b) → (IsTrue b → IsTrue a) → a ≡ b
same_flag true b p q = sym (p refl)
same_flag false true p q = q refl
same_flag false false p q = refl

not_false : IsTrue false → ⊥
not_false e = cc

pub pointers_order : IsOrder IsPointers IsPointersBelow
pointers_order = record {
  reflexive = λ p p-is. record { null = λ e. e; invalid = λ e. e; objects = objects_order.reflexive p.objects p-is };
  transitive = λ p q r p-is q-is r-is h k. record {
    null = λ e. k.null (h.null e);
    invalid = λ e. k.invalid (h.invalid e);
    objects = objects_order.transitive p.objects q.objects r.objects p-is q-is r-is h.objects k.objects;
  };
  antisymmetric = λ p q p-is q-is h k.
      let nulls = same_flag p.null q.null h.null k.null in
      let invalids = same_flag p.invalid q.invalid h.invalid k.invalid in
      let tables = objects_order.antisymmetric p.objects q.objects p-is q-is h.objects k.objects in
      λ i. record { null = nulls i; invalid = invalids i; objects = tables i };
}

pub pointers_join : IsJoin IsPointers IsPointersBelow joined_pointers
pointers_join = record {
  value = λ p q p-is q-is. objects_join.value p.objects q.objects p-is q-is;
  left = λ p q p-is q-is. record {
    null = or_left p.null q.null;
    invalid = or_left p.invalid q.invalid;
    objects = objects_join.left p.objects q.objects p-is q-is;
  };
  right = λ p q p-is q-is. record {
    null = or_right p.null q.null;
    invalid = or_right p.invalid q.invalid;
    objects = objects_join.right p.objects q.objects p-is q-is;
  };
  least = λ p q r p-is q-is r-is h k. record {
    null = or_least p.null q.null r.null h.null k.null;
    invalid = or_least p.invalid q.invalid r.invalid h.invalid k.invalid;
    objects = objects_join.least p.objects q.objects r.objects p-is q-is r-is h.objects k.objects;
  };
}

pub pointers_closure : IsClosure IsPointers AnyMarks IsPointersBelow rounded_pointers
pointers_closure = record {
  value = λ marks p m p-is. objects_closure.value marks p.objects m p-is;
  extensive = λ marks p m p-is. record {
    null = λ e. e;
    invalid = λ e. e;
    objects = objects_closure.extensive marks p.objects m p-is;
  };
  monotone = λ marks p q m p-is q-is h. record {
    null = h.null;
    invalid = h.invalid;
    objects = objects_closure.monotone marks p.objects q.objects m p-is q-is h.objects;
  };
  idempotent = λ marks p m p-is. (let same = objects_closure.idempotent marks p.objects m p-is in
      λ i. record { null = p.null; invalid = p.invalid; objects = same i });
}

pub pointers_nothing : IsLeastNothing IsPointers AnyMarks IsPointersBelow rounded_pointers (λ p. p ≡ no_pointer)
pointers_nothing = record {
  below = λ p q p-is q-is none. record {
    null = λ e. absurd (not_false (ap (λ x. x.null) (sym none) ∙ e));
    invalid = λ e. absurd (not_false (ap (λ x. x.invalid) (sym none) ∙ e));
    objects = objects_nothing.below p.objects q.objects p-is q-is (ap (λ x. x.objects) none);
  };
  rounding = λ marks p m p-is none.
      let nulls = ap (λ x. x.null) none in
      let invalids = ap (λ x. x.invalid) none in
      let tables = objects_nothing.rounding marks p.objects m p-is (ap (λ x. x.objects) none) in
      λ i. record { null = nulls i; invalid = invalids i; objects = tables i };
}
