use Rattle.std.proofs.Common.{inl, inr, ⊎_elim}
use Rattle.strided_dom.proofs.laws.operations_are_monotone.Goals as goal

pub returns-clause-hull : goal.returns-clause-hull
returns-clause-hull c = λ s t s' t' h h' p q a b. a.least h' (λ v r. ⊎_elim (λ x. b.complete v (inl (p.within v x))) (λ x. b.complete v (inr (q.within v x))) r)

pub returns-clause-meet : goal.returns-clause-meet
returns-clause-meet c = λ s t s' t' m m' p q a b. record { within = λ v r. (let x = a.sound v r in b.complete v (p.within v x.0, q.within v x.1)) }

pub returns-clause-without : goal.returns-clause-without
returns-clause-without c = λ s s' r r' w p a b. a.least r' (λ v x. b.complete v (p.within v x.0, x.1))

pub returns-clause-sum : goal.returns-clause-sum
returns-clause-sum c = λ s t s' t' r r' p q a b. a.least r' (λ v x. b.complete v (record { left = x.left; right = x.right; in_left = p.within _ x.in_left; in_right = q.within _ x.in_right; sum = x.sum }))

pub returns-clause-times : goal.returns-clause-times
returns-clause-times c = λ s s' r r' n p a b. record { within = λ v y. (let x = a.sound v y in b.complete v (record { factor = x.factor; in_set = p.within _ x.in_set; product = x.product })) }
