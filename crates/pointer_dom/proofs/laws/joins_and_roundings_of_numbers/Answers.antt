use Rattle.pointer_dom.specs.StridedSets.{hull_is, rounding_is, rounding_within_is}
use Rattle.pointer_dom.proofs.laws.joins_and_roundings_of_numbers.Goals as goal

pub returns-clause-hull : goal.returns-clause-hull
returns-clause-hull c = hull_is

pub returns-clause-rounding : goal.returns-clause-rounding
returns-clause-rounding c = rounding_is

pub returns-clause-within : goal.returns-clause-within
returns-clause-within c = rounding_within_is
