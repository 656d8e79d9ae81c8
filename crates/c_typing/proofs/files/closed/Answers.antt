use Rattle.std.proofs.Common.{◌≡◌, ap, sym, subst, inl, inr, refl}
use Rattle.std.specs.Prelude.{IfSome, None, Result, Ok, Err}
use Rattle.tm_terms.specs.declared.refusals.Refusal.{Refusal}
use Rattle.tm_terms.specs.declared.refusals.Fail.{Fail}
use Rattle.tm_typed.specs.Files.{TypedFileTree, Closes}
use Rattle.call_graph.specs.declared.orders.CallOrder.{CallOrder}
use Rattle.call_graph.specs.Orders.{IsCallOrder}
use Rattle.c_typing.specs.Views.{answer_of, found_of}
use Rattle.c_typing.proofs.Orders.{ordered_acyclic}
use Rattle.c_typing.proofs.files.closed.Goals as goal

pub returns-in-Ordered-clause-told : goal.returns-in-Ordered-clause-told
returns-in-Ordered-clause-told c =
    let graph = (found_of c.args.found).calls in
    let P : CallOrder → Type 0 = IsCallOrder graph c.args.found.definitions.items in
    let one : TypedFileTree → Result TypedFileTree Refusal = λ f. Ok f in
    inr (record {
      acyclic = ordered_acyclic graph c.in-Ordered.order.items (subst P c.in-Ordered.is c.in_ok-order.ensures);
      answered = ap one c.finished.ensures.file;
    })

pub returns-in-Recursive-clause-told : goal.returns-in-Recursive-clause-told
returns-in-Recursive-clause-told c =
    let Q : CallOrder → Type 0 = IsCallOrder (found_of c.args.found).calls c.args.found.definitions.items in
    let P : Fail → Type 0 = λ e. IfSome (answer_of (Err e)) (λ answer. Closes (found_of c.args.found) c.args.main None answer) in
    subst P (sym c.recursive.ensures) (inl (record { function = c.in-Recursive.function; first = subst Q c.in-Recursive.is c.in_ok-order.ensures; answered = refl }))
