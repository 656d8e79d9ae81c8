-- Sets of scalar values meet the laws of a lattice.
use Rattle.std.specs.Prelude.{◌≡◌, List, ℤ}
use Rattle.std.proofs.Common.{ap, subst}
use Rattle.strided_dom.specs.Progression.{Has, first_of}
use Rattle.strided_dom.proofs.Members.{not_in_empty, no_member, below_antisym}
use Rattle.strided_dom.proofs.Roundings.{rounding_extensive, rounding_monotone, rounding_idempotent}
use Rattle.tm_lattice.specs.LatticeLaws.{IsOrder, IsJoin, IsClosure, IsLeastNothing}
use Rattle.pointer_dom.specs.StridedSets.{rounding, rounding_is}
use Rattle.pointer_dom.specs.laws.OffsetLaws.{hull_left, hull_right, hull_least, empty_below}
use Rattle.pointer_dom.specs.laws.PointerLaws.{pointers_order, pointers_join, pointers_closure, pointers_nothing}
use Rattle.pointer_dom.specs.Values.{IsValues, no_value, IsValuesBelow, joined_values, rounded_values}

abbrev AnyMarks : List ℤ → Type 0
AnyMarks marks = Unit {0}

pub values_order : IsOrder IsValues IsValuesBelow
values_order = record {
  reflexive = λ v v-is. record {
    numbers = record { within = λ n p. p };
    pointers = pointers_order.reflexive v.pointers v-is;
  };
  transitive = λ v w x v-is w-is x-is h k. record {
    numbers = record { within = λ n p. k.numbers.within n (h.numbers.within n p) };
    pointers = pointers_order.transitive v.pointers w.pointers x.pointers v-is w-is x-is h.pointers k.pointers;
  };
  antisymmetric = λ v w v-is w-is h k.
      let sets = below_antisym v.numbers w.numbers h.numbers k.numbers in
      let others = pointers_order.antisymmetric v.pointers w.pointers v-is w-is h.pointers k.pointers in
      λ i. record { numbers = sets i; pointers = others i };
}

pub values_join : IsJoin IsValues IsValuesBelow joined_values
values_join = record {
  value = λ v w v-is w-is. pointers_join.value v.pointers w.pointers v-is w-is;
  left = λ v w v-is w-is. record {
    numbers = hull_left v.numbers w.numbers;
    pointers = pointers_join.left v.pointers w.pointers v-is w-is;
  };
  right = λ v w v-is w-is. record {
    numbers = hull_right v.numbers w.numbers;
    pointers = pointers_join.right v.pointers w.pointers v-is w-is;
  };
  least = λ v w x v-is w-is x-is h k. record {
    numbers = hull_least v.numbers w.numbers x.numbers h.numbers k.numbers;
    pointers = pointers_join.least v.pointers w.pointers x.pointers v-is w-is x-is h.pointers k.pointers;
  };
}

pub values_closure : IsClosure IsValues AnyMarks IsValuesBelow rounded_values
values_closure = record {
  value = λ marks v m v-is. pointers_closure.value marks v.pointers m v-is;
  extensive = λ marks v m v-is. record {
    numbers = rounding_extensive marks v.numbers (rounding marks v.numbers)
        (rounding_is marks v.numbers);
    pointers = pointers_closure.extensive marks v.pointers m v-is;
  };
  monotone = λ marks v w m v-is w-is h. record {
    numbers = rounding_monotone marks v.numbers w.numbers (rounding marks v.numbers)
        (rounding marks w.numbers) h.numbers (rounding_is marks v.numbers) (rounding_is marks w.numbers);
    pointers = pointers_closure.monotone marks v.pointers w.pointers m v-is w-is h.pointers;
  };
  idempotent = λ marks v m v-is.
      let sets = rounding_idempotent marks v.numbers (rounding marks v.numbers)
      (rounding marks (rounding marks v.numbers)) (rounding_is marks v.numbers)
      (rounding_is marks (rounding marks v.numbers)) in
      let others = pointers_closure.idempotent marks v.pointers m v-is in
      λ i. record { numbers = sets i; pointers = others i };
}

pub values_nothing : IsLeastNothing IsValues AnyMarks IsValuesBelow rounded_values (λ v. v ≡ no_value)
values_nothing = record {
  below = λ v w v-is w-is none. record {
    numbers = empty_below v.numbers w.numbers (ap (λ x. x.numbers) none);
    pointers = pointers_nothing.below v.pointers w.pointers v-is w-is (ap (λ x. x.pointers) none);
  };
  rounding = λ marks v m v-is none.
      let sets = no_member (rounding marks v.numbers) (λ n p.
      not_in_empty _ (subst (λ x. Has x (first_of v.numbers)) (ap (λ x. x.numbers) none)
      ((rounding_is marks v.numbers).sound n p).some)) in
      let others = pointers_nothing.rounding marks v.pointers m v-is (ap (λ x. x.pointers) none) in
      λ i. record { numbers = sets i; pointers = others i };
}
