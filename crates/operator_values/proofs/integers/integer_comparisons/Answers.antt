use Rattle.filters.specs.strided_dom.Combinations.{IsInBoth}
use Rattle.filters.specs.pointer_dom.laws.OffsetLaws.{same_members, same_hull}
use Rattle.filters.specs.Partners.{Compares, HasPartner}
use Rattle.operator_values.specs.Integers.{left_assumed, right_assumed, assumed_is, met_numbers, met_numbers_is}
use Rattle.operator_values.proofs.integers.integer_comparisons.Goals as goal

pub returns : goal.returns
returns c = record {
  is = assumed_is;
  one = λ op a b left right h.
      (let k = assumed_is op a b in (
        same_hull (HasPartner (Compares op) a b) left (left_assumed op a b) h.of_left k.of_left,
        same_hull (HasPartner (λ y x. Compares op x y) b a) right (right_assumed op a b) h.of_right k.of_right,
      ));
  common = met_numbers_is;
  one_common = λ a b s h. same_members (IsInBoth a b) s (met_numbers a b) h (met_numbers_is a b);
}
