use Rattle.std.proofs.Common.{inl, inr, ⊎_elim}
use Rattle.strided_dom.proofs.laws.hull_is_the_least_upper_bound.Goals as goal

pub returns-clause-left : goal.returns-clause-left
returns-clause-left c = λ s t hull h. record { within = λ v p. h.complete v (inl p) }

pub returns-clause-right : goal.returns-clause-right
returns-clause-right c = λ s t hull h. record { within = λ v p. h.complete v (inr p) }

pub returns-clause-least : goal.returns-clause-least
returns-clause-least c = λ s t hull u h p q. h.least u (λ v r. ⊎_elim (p.within v) (q.within v) r)
