use Rattle.open_choices.proofs.Searching.{not_found}
use Rattle.open_choices.proofs.Numbers.{none_positive}
use Rattle.open_choices.proofs.enumerations.has_positive.Goals as goal

pub returns-then-is_empty : goal.returns-then-is_empty
returns-then-is_empty c =
    not_found (none_positive c.args.numbers.now (c.is_empty.ensures.0 c.if-is_empty.true))
