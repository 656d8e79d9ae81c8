-- The meet of two sets of scalar values as a function.
use Rattle.filters.specs.pointer_dom.Values.{Values, IsValues, IsValuesMeet}
use Rattle.operator_values.specs.Integers.{met_numbers, met_numbers_is}
use Rattle.operator_values.specs.SetsOfPointers.{common_pointers, common_pointers_are, common_pointers_fit}

-- the values that both sets have
abbrev pub met_values : Values → Values → Values
met_values v w = record {
  numbers = met_numbers v.numbers w.numbers;
  pointers = common_pointers v.pointers w.pointers;
}

pub met_values_is : (v w : Values) → IsValuesMeet v w (met_values v w)
met_values_is v w = record {
  numbers = met_numbers_is v.numbers w.numbers;
  pointers = common_pointers_are v.pointers w.pointers;
}

pub met_values_fit : (v w : Values) → IsValues v → IsValues w → IsValues (met_values v w)
met_values_fit v w v-is w-is = common_pointers_fit v.pointers w.pointers v-is w-is
