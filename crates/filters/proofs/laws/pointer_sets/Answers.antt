use Rattle.filters.proofs.PointerLaws.{pair_kept, none_added, none_left, none_right, less_left}
use Rattle.filters.proofs.laws.pointer_sets.Goals as goal

pub returns-clause-holds : goal.returns-clause-holds
returns-clause-holds c = pair_kept

pub returns-clause-grows : goal.returns-clause-grows
returns-clause-grows c = less_left

pub returns-clause-within : goal.returns-clause-within
returns-clause-within c = none_added

pub returns-clause-empty_left : goal.returns-clause-empty_left
returns-clause-empty_left c = none_left

pub returns-clause-empty_right : goal.returns-clause-empty_right
returns-clause-empty_right c = none_right
