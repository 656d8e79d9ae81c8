use Rattle.open_choices.proofs.Numbers.{turned_by_minus, turned_by_tilde}
use Rattle.open_choices.proofs.enumerations.turns_negative.Goals as goal

pub returns-in-Negate : goal.returns-in-Negate
returns-in-Negate c =
    turned_by_minus c.args.numbers.now c.args.operator c.in-Negate.is c.has_positive.result c.has_positive.ensures

pub returns-in-Complement : goal.returns-in-Complement
returns-in-Complement c =
    turned_by_tilde c.args.numbers.now c.args.operator c.in-Complement.is c.is_empty.result c.is_empty.ensures
