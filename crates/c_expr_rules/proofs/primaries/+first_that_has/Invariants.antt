use Rattle.std.proofs.Common.{length}
use Rattle.c_expr_rules.proofs.primaries.+first_that_has.Given as goal

abbrev pub decreases-first_that_has : goal.decreases-first_that_has
decreases-first_that_has l = length l.types.now
