use Rattle.std.proofs.Common.{◌≡◌, ◌<◌, ◌+◌, suc, [], ◌∷◌, drop, get_or, length, ap, ◌∙◌, sym, arith, add-one, drop-cons}
use Rattle.std.proofs.lemmas.Grind.{common_steps}
use Rattle.std.proofs.lemmas.List.{drop_all}
use Rattle.c_expr_rules.proofs.GivenLists.{step, ended, too_few, pushed_on}
use Rattle.c_expr_rules.proofs.calls.all_given.Goals as goal

pub each-preserved : goal.each-preserved
each-preserved c =
    let below : c.each.index < length c.args.parameters.now = omega (arith, c.if-index-parameters.false, c.each.invariant.within) in
    let cut : drop c.each.index c.args.parameters.now ≡ get_or c.args.parameters.now c.each.index 0 ∷ drop (c.each.index + 1) c.args.parameters.now = drop-cons c.args.parameters.now c.each.index 0 below ∙ ap (λ i. get_or c.args.parameters.now c.each.index 0 ∷ drop i c.args.parameters.now) (sym (add-one c.each.index)) in
    record {
      same = step c.args.scope.now c.each.all.items c.push.new.self.items c.in-Some-2.value.value c.in-Some.argument c.each.argument-iterator.rest.items c.next.new.self.rest.items (drop c.each.index c.args.parameters.now) (drop (c.each.index + 1) c.args.parameters.now) (get_or c.args.parameters.now c.each.index 0) _
          c.each.invariant.same c.in-Some.ensures.steps.0 cut (rw c.in-Some-2.is at c.in_ok-value.ensures) (pushed_on c.each.all.items c.into_inner.ensures c.in-Ok.ensures.items);
      within = omega (arith, below);
    }

pub returns-then-index-parameters-2 : goal.returns-then-index-parameters-2
returns-then-index-parameters-2 c =
    let none : c.each.argument-iterator.rest.items ≡ [] = grind (arith, common_steps, c.in-None.ensures.steps.0) in
    ended c.args.scope.now c.each.all.items c.each.argument-iterator.rest.items (drop c.each.index c.args.parameters.now) _ c.each.invariant.same none (drop_all c.each.index c.args.parameters.now (omega (arith, c.if-index-parameters-2.true)))

pub returns-else-index-parameters-2 : goal.returns-else-index-parameters-2
returns-else-index-parameters-2 c =
    let below : c.each.index < length c.args.parameters.now = omega (arith, c.if-index-parameters-2.false, c.each.invariant.within) in
    let none : c.each.argument-iterator.rest.items ≡ [] = grind (arith, common_steps, c.in-None.ensures.steps.0) in
    too_few c.args.scope.now c.each.all.items c.each.argument-iterator.rest.items (drop c.each.index c.args.parameters.now) (drop (suc c.each.index) c.args.parameters.now) (get_or c.args.parameters.now c.each.index 0) _ c.each.invariant.same none (drop-cons c.args.parameters.now c.each.index 0 below)
