use Rattle.open_choices.proofs.Searching.{not_found}
use Rattle.open_choices.proofs.Numbers.{none_on_left, none_on_right}
use Rattle.open_choices.proofs.enumerations.has_smaller.Goals as goal

pub returns-then-is_empty : goal.returns-then-is_empty
returns-then-is_empty c =
    not_found (none_on_left c.args.left.now c.args.right.now (c.is_empty.ensures.0 c.if-is_empty.true))

pub returns-then-is_empty-2 : goal.returns-then-is_empty-2
returns-then-is_empty-2 c =
    not_found (none_on_right c.args.left.now c.args.right.now (c.is_empty-2.ensures.0 c.if-is_empty-2.true))
