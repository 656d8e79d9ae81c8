use Rattle.pointer_dom.proofs.Meaning.{included, below_from}
use Rattle.pointer_dom.proofs.laws.order_of_pointer_sets_is_inclusion.Goals as goal

pub returns-clause-included : goal.returns-clause-included
returns-clause-included c = included

pub returns-clause-below : goal.returns-clause-below
returns-clause-below c = below_from
