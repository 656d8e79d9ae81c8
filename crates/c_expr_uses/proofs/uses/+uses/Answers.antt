use Rattle.std.proofs.Common.{◌≡◌, List, ◌++◌, Result, Ok, Err, OnOk, ap, sym, subst, ◌∙◌}
use Rattle.std.proofs.lemmas.List.{append_assoc}
use Rattle.tm_lattice.specs.declared.memory.NoMemory.{NoMemory}
use Rattle.tm_terms.specs.declared.exprs.Expr.TheVariants as Form
use Rattle.tm_terms.specs.ExprTrees.{Tree, tree_of, as_arguments, a_call}
use Rattle.tm_terms.proofs.ExprCalls.{tree_of-call}
use Rattle.tm_typed.specs.declared.uses.Use.{Use}
use Rattle.tm_typed.specs.Scopes.{named}
use Rattle.tm_typed.specs.Uses.{uses_of, called_use, argument_uses}
use Rattle.c_expr_uses.proofs.uses.+uses.Goals as goal

-- uses behind others, behind the old ones
behind_both : (r : Result (Unit {0}) NoMemory) (new middle old a b : List Use) → middle ≡ old ++ a → OnOk r (new ≡ middle ++ b) → OnOk r (new ≡ old ++ (a ++ b))
behind_both (Err x) new middle old a b e h = tt
behind_both (Ok x) new middle old a b e h = h ∙ ap (λ (m : List Use). m ++ b) e ∙ append_assoc old a b

pub push_uses-returns-in_ok-push_called-in-Call : goal.push_uses-returns-in_ok-push_called-in-Call
push_uses-returns-in_ok-push_called-in-Call t c =
    let i = c.in-Call in
    let scope = c.args.scope.now in
    let is : c.args.expr.now ≡ Form.Call i.function i.arguments i.place = i.is in
    let e = ap tree_of is ∙ tree_of-call i.function i.arguments i.place ∙ ap (λ es. a_call i.function (as_arguments es) i.place) (sym c.deref-in-Call.ensures.value) in
    subst (λ (u : Tree). OnOk c.push_argument_uses.result (c.push_argument_uses.new.uses.items ≡ c.args.uses.now.items ++ uses_of scope u)) (sym e)
    (behind_both c.push_argument_uses.result c.push_argument_uses.new.uses.items c.push_called.new.uses.items c.args.uses.now.items
    (called_use i.place (named scope i.function)) (argument_uses scope (as_arguments c.deref-in-Call.result.now))
    c.in_ok-push_called-in-Call.ensures c.push_argument_uses.ensures)
