use Rattle.typed_values.specs.laws.TypeLaws.{none_of_type, same_type, joined_of_type, rounded_of_type, met_of_type}
use Rattle.typed_values.specs.laws.TypeLaws.{less_of_type}
use Rattle.typed_values.proofs.kept.values_keep_their_types.Goals as goal

pub returns : goal.returns
returns c = record {
  none = none_of_type;
  same = same_type;
  joined = joined_of_type;
  rounded = rounded_of_type;
  met = met_of_type;
  less = less_of_type;
}
