use Rattle.filters.proofs.PointerLaws.{one_removed, invalid_stays, two_stay}
use Rattle.filters.proofs.laws.unequal_pointers_by_the_other_side.Goals as goal

pub returns-clause-one : goal.returns-clause-one
returns-clause-one c = one_removed

pub returns-clause-invalid : goal.returns-clause-invalid
returns-clause-invalid c = invalid_stays

pub returns-clause-two : goal.returns-clause-two
returns-clause-two c = two_stay
