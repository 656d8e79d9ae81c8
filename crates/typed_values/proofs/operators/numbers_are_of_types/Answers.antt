use Rattle.typed_values.specs.laws.NumbersInTypes.{operated_values, converted_values, equality_values}
use Rattle.typed_values.proofs.operators.numbers_are_of_types.Goals as goal

pub returns : goal.returns
returns c = record { operators = operated_values; conversions = converted_values; comparisons = equality_values }
