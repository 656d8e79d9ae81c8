use Rattle.strided_dom.proofs.laws.meet_is_the_greatest_lower_bound.Goals as goal

pub returns-clause-left : goal.returns-clause-left
returns-clause-left c = λ s t meet h. record { within = λ v p. (h.sound v p).0 }

pub returns-clause-right : goal.returns-clause-right
returns-clause-right c = λ s t meet h. record { within = λ v p. (h.sound v p).1 }

pub returns-clause-greatest : goal.returns-clause-greatest
returns-clause-greatest c = λ s t meet u h p q. record { within = λ v r. h.complete v (p.within v r, q.within v r) }
