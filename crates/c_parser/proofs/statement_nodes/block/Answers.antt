use Rattle.std.proofs.Common.{◌≡◌, IfOk, subst}
use Rattle.tm_trees.specs.FileTrees.{StatementTree}
use Rattle.tm_trees.proofs.StatementNodes.{statement_tree-block}
use Rattle.c_parser.specs.reading.Founds.{boxed_tree}
use Rattle.c_parser.proofs.statement_nodes.block.Goals as goal

pub returns : goal.returns
returns c = subst (λ (t : StatementTree). IfOk c.boxed.result (λ s. boxed_tree s ≡ t)) (statement_tree-block c.args.block) c.boxed.ensures
