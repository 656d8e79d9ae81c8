use Rattle.std.proofs.Common.{◌≡◌, ◌+◌, drop, map}
use Rattle.tm_terms.specs.ExprTrees.{as_arguments}
use Rattle.tm_typed.specs.TypedTrees.{rated}
use Rattle.tm_typed.specs.Typing.{typing_all, argument_calls}
use Rattle.tm_typed.specs.TypeNames.{type_of_name}
use Rattle.c_expr_typing.proofs.Frame.{behind}
use Rattle.c_expr_typing.proofs.expressions.+expression.Given as goal

-- what is left, behind what was typed, gives what the whole gives
abbrev pub invariant-arguments-items : goal.invariant-arguments-items
invariant-arguments-items l = record {
  same : behind (map rated l.typed.items) (typing_all type_of_name l.scope l.site (as_arguments (drop l.expr-index l.exprs))) ≡ typing_all type_of_name l.scope l.initial.site (as_arguments l.exprs);
  sites : l.site + argument_calls (as_arguments (drop l.expr-index l.exprs)) ≡ l.initial.site + argument_calls (as_arguments l.exprs);
}
