use Rattle.std.proofs.Common.{◌≡◌, ◌++◌, drop}
use Rattle.tm_terms.specs.ExprTrees.{as_arguments}
use Rattle.tm_typed.specs.Uses.{argument_uses}
use Rattle.c_expr_uses.proofs.uses.+uses.Given as goal

-- the uses so far, and those of the arguments that are left
abbrev pub invariant-push_argument_uses-loop-expr : goal.invariant-push_argument_uses-loop-expr
invariant-push_argument_uses-loop-expr l = l.uses.items ++ argument_uses l.scope (as_arguments (drop l.expr-index l.exprs)) ≡ l.initial.uses.items ++ argument_uses l.scope (as_arguments l.exprs)
