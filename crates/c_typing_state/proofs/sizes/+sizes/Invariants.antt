use Rattle.std.proofs.Common.{◌≡◌, ◌++◌, drop}
use Rattle.tm_terms.specs.ExprTrees.{as_arguments}
use Rattle.tm_typed.specs.Sizes.{argument_sizes}
use Rattle.c_typing_state.proofs.sizes.+sizes.Given as goal

-- the places so far, and those of the arguments that are left
abbrev pub invariant-push_argument_sizes-loop-expr : goal.invariant-push_argument_sizes-loop-expr
invariant-push_argument_sizes-loop-expr l = l.sizes.items ++ argument_sizes l.scope (as_arguments (drop l.expr-index l.exprs)) ≡ l.initial.sizes.items ++ argument_sizes l.scope (as_arguments l.exprs)
