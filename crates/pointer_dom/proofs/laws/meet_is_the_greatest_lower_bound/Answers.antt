use Rattle.pointer_dom.proofs.Meaning.{meet_below, meet_greatest, meet_one}
use Rattle.pointer_dom.proofs.laws.meet_is_the_greatest_lower_bound.Goals as goal

pub returns-clause-left : goal.returns-clause-left
returns-clause-left c = λ p q met is h. (meet_below p q met is h).0

pub returns-clause-right : goal.returns-clause-right
returns-clause-right c = λ p q met is h. (meet_below p q met is h).1

pub returns-clause-greatest : goal.returns-clause-greatest
returns-clause-greatest c = meet_greatest

pub returns-clause-one : goal.returns-clause-one
returns-clause-one c = meet_one
