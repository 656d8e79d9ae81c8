use Rattle.std.proofs.Common.{◌≡◌, IfOk, subst}
use Rattle.tm_typed.specs.TypedStatements.{TypedTree}
use Rattle.tm_typed.proofs.TypedStatementTrees.{typed_tree-switch}
use Rattle.c_statements.specs.Views.{statement_in_box}
use Rattle.c_statements.proofs.nodes.switch.Goals as goal

pub returns : goal.returns
returns c =
    subst (λ (t : TypedTree). IfOk c.boxed.result (λ s. statement_in_box s ≡ t)) (typed_tree-switch c.args.selector.works_in c.args.selector.value c.args.parts) c.boxed.ensures
