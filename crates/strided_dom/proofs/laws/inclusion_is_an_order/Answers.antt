use Rattle.strided_dom.proofs.Members.{below_antisym}
use Rattle.strided_dom.proofs.laws.inclusion_is_an_order.Goals as goal

pub returns-clause-reflexive : goal.returns-clause-reflexive
returns-clause-reflexive c = λ s. record { within = λ v h. h }

pub returns-clause-transitive : goal.returns-clause-transitive
returns-clause-transitive c = λ s t u p q. record { within = λ v h. q.within v (p.within v h) }

pub returns-clause-antisymmetric : goal.returns-clause-antisymmetric
returns-clause-antisymmetric c = below_antisym

pub returns-clause-extensional : goal.returns-clause-extensional
returns-clause-extensional c = λ s t h. below_antisym s t (record { within = λ v. (h v).0 }) (record { within = λ v. (h v).1 })
