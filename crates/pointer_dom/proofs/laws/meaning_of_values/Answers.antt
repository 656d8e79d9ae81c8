use Rattle.pointer_dom.proofs.Meaning.{value_included, value_below_from, in_value_join, in_value_meet, in_value_rounded}
use Rattle.pointer_dom.proofs.laws.meaning_of_values.Goals as goal

pub returns-clause-included : goal.returns-clause-included
returns-clause-included c = value_included

pub returns-clause-below : goal.returns-clause-below
returns-clause-below c = value_below_from

pub returns-clause-join : goal.returns-clause-join
returns-clause-join c = in_value_join

pub returns-clause-meet : goal.returns-clause-meet
returns-clause-meet c = in_value_meet

pub returns-clause-rounding : goal.returns-clause-rounding
returns-clause-rounding c = in_value_rounded
