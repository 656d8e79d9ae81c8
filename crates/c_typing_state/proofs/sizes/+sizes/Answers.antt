use Rattle.std.proofs.Common.{◌≡◌, ◌++◌, OnOk, ap, sym, subst, ◌∙◌}
use Rattle.tm_terms.specs.declared.exprs.Expr.TheVariants as Form
use Rattle.tm_terms.specs.ExprTrees.{Tree, tree_of, as_arguments, a_call}
use Rattle.tm_terms.proofs.ExprCalls.{tree_of-call}
use Rattle.tm_typed.specs.Sizes.{sizes_of}
use Rattle.c_typing_state.proofs.sizes.+sizes.Goals as goal

pub push_sizes-returns-in-Call : goal.push_sizes-returns-in-Call
push_sizes-returns-in-Call t c =
    let i = c.in-Call in
    let is : c.args.expr.now ≡ Form.Call i.function i.arguments i.place = i.is in
    let e = ap tree_of is ∙ tree_of-call i.function i.arguments i.place ∙ ap (λ es. a_call i.function (as_arguments es) i.place) (sym c.deref-in-Call.ensures.value) in
    subst (λ (u : Tree). OnOk c.push_argument_sizes.result (c.push_argument_sizes.new.sizes.items ≡ c.args.sizes.now.items ++ sizes_of c.args.scope.now u)) (sym e) c.push_argument_sizes.ensures
