use Rattle.filters.specs.pointer_dom.laws.OffsetLaws.{same_members}
use Rattle.transfer_int.specs.Values.{IsConverted}
use Rattle.operator_values.specs.Integers.{converted, converted_is}
use Rattle.operator_values.proofs.integers.integer_conversions.Goals as goal

pub returns : goal.returns
returns c = record {
  is = converted_is;
  one = λ t a s h. same_members (IsConverted t a) s (converted t a) h (converted_is t a);
}
