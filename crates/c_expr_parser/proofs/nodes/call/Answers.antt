use Rattle.std.proofs.Common.{◌≡◌, ◌+◌, suc, IfOk, sym, ap, ◌∙◌, subst, arith}
use Rattle.tm_terms.specs.ExprTrees.{Tree, height}
use Rattle.tm_terms.proofs.ExprCalls.{tree_of-call}
use Rattle.c_expr_parser.specs.reading.Founds.{pair_of}
use Rattle.c_expr_parser.proofs.nodes.call.Goals as goal

pub node-requires : goal.node-requires
node-requires c =
    let one : c.args.arguments.height + 1 ≡ suc c.args.arguments.height = omega arith in
    one ∙ ap suc c.args.arguments.counted ∙ sym (ap height (tree_of-call c.args.function c.args.arguments.items c.args.place))

pub returns-clause-pair : goal.returns-clause-pair
returns-clause-pair c =
    subst (λ (t : Tree). IfOk c.node.result (λ f. pair_of f ≡ (t, c.args.arguments.rest.now))) (tree_of-call c.args.function c.args.arguments.items c.args.place) c.node.ensures.pair
