use Rattle.filters.specs.pointer_dom.laws.OffsetLaws.{same_members}
use Rattle.filters.specs.pointer_dom.Equality.{IsEqualityValue}
use Rattle.operator_values.specs.SetsOfPointers.{equality, equality_is, pointers_are_assumed, left_pointers_fit, right_pointers_fit}
use Rattle.operator_values.proofs.OneAnswer.{one_assumed}
use Rattle.operator_values.proofs.pointers.compared_pointers.Goals as goal

pub returns : goal.returns
returns c = record {
  value = equality_is;
  one_value = λ equal p q s h. same_members (IsEqualityValue equal p q) s (equality equal p q) h (equality_is equal p q);
  left = pointers_are_assumed;
  fits = λ equal p q p-is q-is. (left_pointers_fit equal p q p-is q-is, right_pointers_fit equal p q p-is q-is);
  one_left = λ equal p q left right p-is q-is left-is right-is h. one_assumed equal p q left right p-is q-is left-is right-is h;
}
