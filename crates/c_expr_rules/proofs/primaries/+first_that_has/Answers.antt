use Rattle.std.proofs.Common.{sym, ◌∙◌}
use Rattle.c_expr_rules.proofs.ConstantTypes.{find_rest}
use Rattle.c_expr_rules.proofs.primaries.+first_that_has.Goals as goal

pub returns-else-has-clause-value : goal.returns-else-has-clause-value
returns-else-has-clause-value t c = find_rest _ c.args.types.now _ _ (sym c.has.ensures.value ∙ c.if-has.false) c.in-len1-up.len_at_least c.first_that_has.ensures.value
