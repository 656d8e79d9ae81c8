use Rattle.unit_joins.proofs.joining.made.Goals as goal

pub returns-in-Err : goal.returns-in-Err
returns-in-Err c = c.other_fail.ensures c.args.plan.text.now
