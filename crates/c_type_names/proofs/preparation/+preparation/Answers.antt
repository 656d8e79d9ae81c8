use Rattle.std.proofs.Common.{◌≡◌, OnOk, ap, sym, subst, ◌∙◌}
use Rattle.tm_terms.specs.declared.exprs.Expr.TheVariants as Form
use Rattle.tm_terms.specs.ExprTrees.{Tree, tree_of, as_arguments, a_call}
use Rattle.tm_terms.proofs.ExprCalls.{tree_of-call}
use Rattle.tm_typed.specs.TypeNames.{prepared}
use Rattle.c_type_names.proofs.preparation.+preparation.Goals as goal

pub prepare-returns-in-Call : goal.prepare-returns-in-Call
prepare-returns-in-Call t c =
    let is : c.args.expr.now ≡ Form.Call c.in-Call.function c.in-Call.arguments c.in-Call.place = c.in-Call.is in
    let e = ap tree_of is ∙ tree_of-call c.in-Call.function c.in-Call.arguments c.in-Call.place ∙ ap (λ es. a_call c.in-Call.function (as_arguments es) c.in-Call.place) (sym c.deref-in-Call.ensures.value) in
    subst (λ (u : Tree). OnOk c.prepare_all.result (c.prepare_all.new.scope ≡ prepared c.args.scope.now u)) (sym e) c.prepare_all.ensures
