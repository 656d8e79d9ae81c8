use Rattle.std.proofs.Common.{subst}
use Rattle.tm_typed.specs.TypedTrees.{RvalueTree, operand_tree}
use Rattle.tm_typed.specs.Refusals.{Gives}
use Rattle.tm_typed.specs.Operands.{made}
use Rattle.tm_typed.proofs.CallTrees.{rvalue_tree-call}
use Rattle.c_expr_rules.proofs.calls.call_made.Goals as goal

pub returns : goal.returns
returns c = subst (λ (v : RvalueTree). Gives operand_tree c.made.result (made v c.args.sort c.args.place)) (rvalue_tree-call c.args.function c.args.site c.args.arguments c.args.place) c.made.ensures
