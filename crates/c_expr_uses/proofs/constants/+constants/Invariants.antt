use Rattle.std.proofs.Common.{◌≡◌, ◌++◌, drop}
use Rattle.tm_typed.specs.TypedTrees.{as_rvalues}
use Rattle.tm_typed.specs.Constants.{all_constants}
use Rattle.c_expr_uses.proofs.constants.+constants.Given as goal

-- the constants so far, and those of the arguments that are left
abbrev pub invariant-push_all-loop-value : goal.invariant-push_all-loop-value
invariant-push_all-loop-value l = l.constants.items ++ all_constants (as_rvalues (drop l.value-index l.values)) ≡ l.initial.constants.items ++ all_constants (as_rvalues l.values)
