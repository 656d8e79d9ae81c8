use Rattle.c_expr_typing.proofs.WellTypedGrowth.{operand_stays}
use Rattle.c_expr_typing.proofs.laws.typed_expressions_stay_well_formed.Goals as goal

pub returns : goal.returns
returns c = operand_stays
