use Rattle.std.proofs.Common.{◌≡◌, ◌++◌, OnOk, ap, sym, subst, ◌∙◌}
use Rattle.tm_typed.specs.declared.expressions.Rvalue.TheVariants as Rvalues
use Rattle.tm_typed.specs.TypedTrees.{RvalueTree, rvalue_tree, a_function_call, as_rvalues}
use Rattle.tm_typed.specs.Constants.{constants_of}
use Rattle.tm_typed.proofs.CallTrees.{rvalue_tree-call}
use Rattle.c_expr_uses.proofs.constants.+constants.Goals as goal

pub push_of_value-returns-in-Call : goal.push_of_value-returns-in-Call
push_of_value-returns-in-Call t c =
    let i = c.in-Call in
    let is : c.args.value.now ≡ Rvalues.Call i.function i.site i.arguments i.place = i.is in
    let e = ap rvalue_tree is ∙ rvalue_tree-call i.function i.site i.arguments i.place ∙ ap (λ es. a_function_call i.function i.site (as_rvalues es) i.place) (sym c.deref-in-Call.ensures.value) in
    subst (λ (u : RvalueTree). OnOk c.push_all.result (c.push_all.new.constants.items ≡ c.args.constants.now.items ++ constants_of u)) (sym e) c.push_all.ensures
