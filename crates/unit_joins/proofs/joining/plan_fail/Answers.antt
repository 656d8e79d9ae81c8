use Rattle.unit_joins.proofs.joining.plan_fail.Goals as goal

pub returns-in_default : goal.returns-in_default
returns-in_default c = λ units lexed parted refusal. c.other_fail.ensures units
