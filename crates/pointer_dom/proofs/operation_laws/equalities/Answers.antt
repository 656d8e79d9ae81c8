use Rattle.pointer_dom.proofs.OperationMeaning.{truth_below, apart_is, same_is}
use Rattle.pointer_dom.proofs.operation_laws.equalities.Goals as goal

pub returns-clause-holds : goal.returns-clause-holds
returns-clause-holds c = λ equal p q s x y v h m n t. h.complete v (record { left = x; right = y; in_left = m; in_right = n; truth = t })

pub returns-clause-grows : goal.returns-clause-grows
returns-clause-grows c = truth_below

pub returns-clause-apart : goal.returns-clause-apart
returns-clause-apart c = apart_is

pub returns-clause-same : goal.returns-clause-same
returns-clause-same c = same_is
