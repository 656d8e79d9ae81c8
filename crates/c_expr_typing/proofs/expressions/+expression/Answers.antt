use Rattle.std.proofs.Common.{◌≡◌, suc, ◌+◌, OnOk, ap, sym, subst, ◌∙◌, map, arith}
use Rattle.tm_terms.specs.declared.exprs.Expr.TheVariants as Form
use Rattle.tm_terms.specs.ExprTrees.{Tree, tree_of, as_arguments, a_call}
use Rattle.tm_terms.proofs.ExprCalls.{tree_of-call}
use Rattle.tm_typed.specs.TypedTrees.{rated, operand_tree}
use Rattle.tm_typed.specs.Refusals.{Gives}
use Rattle.tm_typed.specs.Rules.{callee}
use Rattle.tm_typed.specs.Scopes.{named}
use Rattle.tm_typed.specs.Typing.{typing, calls}
use Rattle.tm_typed.specs.TypeNames.{type_of_name}
use Rattle.c_expr_typing.proofs.Frame.{call_goes, call_stops}
use Rattle.c_expr_typing.proofs.expressions.+expression.Goals as goal

pub called-returns-in-Ok-arguments-clause-value : goal.called-returns-in-Ok-arguments-clause-value
called-returns-in-Ok-arguments-clause-value t c =
    let next : c.args.site.now + 1 ≡ suc c.args.site.now = omega arith in
    call_goes c.call.result c.args.place (named c.args.scope.now c.args.function) c.in-Ok.named c.args.scope.now c.args.site.now (c.args.site.now + 1) (as_arguments c.args.exprs.now) (map rated c.in-Ok-arguments.values.items)
    (ap (λ o. callee c.args.place o) (sym c.named.ensures) ∙ c.in-Ok.ensures) next c.in-Ok-arguments.ensures.value c.call.ensures

pub called-returns-in-Err-arguments-clause-value : goal.called-returns-in-Err-arguments-clause-value
called-returns-in-Err-arguments-clause-value t c =
    let next : c.args.site.now + 1 ≡ suc c.args.site.now = omega arith in
    call_stops c.in-Err-arguments.fail c.args.place (named c.args.scope.now c.args.function) c.in-Ok.named c.args.scope.now c.args.site.now (c.args.site.now + 1) (as_arguments c.args.exprs.now)
    (ap (λ o. callee c.args.place o) (sym c.named.ensures) ∙ c.in-Ok.ensures) next c.in-Err-arguments.ensures.value

pub typed_expr_at-returns-in-Call-clause-value : goal.typed_expr_at-returns-in-Call-clause-value
typed_expr_at-returns-in-Call-clause-value t c =
    let is : c.args.expr.now ≡ Form.Call c.in-Call.function c.in-Call.exprs c.in-Call.place = c.in-Call.is in
    let e = ap tree_of is ∙ tree_of-call c.in-Call.function c.in-Call.exprs c.in-Call.place ∙ ap (λ es. a_call c.in-Call.function (as_arguments es) c.in-Call.place) (sym c.deref-in-Call.ensures.value) in
    subst (λ (u : Tree). Gives operand_tree c.called.result (typing type_of_name c.args.scope.now c.args.site.now u)) (sym e) c.called.ensures.value

pub typed_expr_at-returns-in-Call-clause-sites : goal.typed_expr_at-returns-in-Call-clause-sites
typed_expr_at-returns-in-Call-clause-sites t c =
    let is : c.args.expr.now ≡ Form.Call c.in-Call.function c.in-Call.exprs c.in-Call.place = c.in-Call.is in
    let e = ap tree_of is ∙ tree_of-call c.in-Call.function c.in-Call.exprs c.in-Call.place ∙ ap (λ es. a_call c.in-Call.function (as_arguments es) c.in-Call.place) (sym c.deref-in-Call.ensures.value) in
    subst (λ (u : Tree). OnOk c.called.result (c.called.new.site ≡ c.args.site.now + calls u)) (sym e) c.called.ensures.sites
