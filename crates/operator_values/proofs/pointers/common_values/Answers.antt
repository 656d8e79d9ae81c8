use Rattle.filters.proofs.low.pointer_dom.Meaning.{meet_one}
use Rattle.operator_values.specs.SetsOfPointers.{common_pointers, common_pointers_are, common_pointers_fit}
use Rattle.operator_values.specs.MetValues.{met_values_is, met_values_fit}
use Rattle.operator_values.proofs.OneAnswer.{one_meet}
use Rattle.operator_values.proofs.pointers.common_values.Goals as goal

pub returns : goal.returns
returns c = record {
  pointers = common_pointers_are;
  pointers_fit = common_pointers_fit;
  one_pointers = λ p q met p-is q-is met-is h. meet_one p q met (common_pointers p q) met-is (common_pointers_fit p q p-is q-is) h (common_pointers_are p q);
  values = met_values_is;
  values_fit = met_values_fit;
  one_values = one_meet;
}
