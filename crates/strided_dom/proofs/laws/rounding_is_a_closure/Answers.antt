use Rattle.strided_dom.proofs.Roundings.{rounding_extensive, rounding_monotone, rounding_idempotent}
use Rattle.strided_dom.proofs.laws.rounding_is_a_closure.Goals as goal

pub returns-clause-extensive : goal.returns-clause-extensive
returns-clause-extensive c = rounding_extensive

pub returns-clause-monotone : goal.returns-clause-monotone
returns-clause-monotone c = rounding_monotone

pub returns-clause-idempotent : goal.returns-clause-idempotent
returns-clause-idempotent c = rounding_idempotent
