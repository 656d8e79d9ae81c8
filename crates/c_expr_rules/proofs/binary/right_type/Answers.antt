use Rattle.c_folds.proofs.ConvertedValues.{same_type_fits}
use Rattle.c_expr_rules.proofs.binary.right_type.Goals as goal

pub returns-else-is_shift-clause-fits : goal.returns-else-is_shift-clause-fits
returns-else-is_shift-clause-fits c = same_type_fits c.args.operator c.args.of
