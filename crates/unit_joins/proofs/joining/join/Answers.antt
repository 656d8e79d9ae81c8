use Rattle.unit_joins.proofs.joining.join.Goals as goal

pub returns-clause-refused : goal.returns-clause-refused
returns-clause-refused c = c.in-Err-is_joined.ensures.refused c.args.text.now
