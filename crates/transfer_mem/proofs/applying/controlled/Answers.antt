use Rattle.std.proofs.Common.{sym, ap, subst}
use Rattle.tm_laid.specs.Layouts.{laid_tree}
use Rattle.memory_effects.specs.edge_actions.Edges.{around_of, action_of}
use Rattle.memory_effects.specs.edge_effects.Effects.{IsAfter}
use Rattle.transfer_mem.proofs.applying.controlled.Goals as goal

pub returns-in_ok-after-in-Skip : goal.returns-in_ok-after-in-Skip
returns-in_ok-after-in-Skip c =
    let view = c.args.view.now in
    subst (λ action. IsAfter (around_of view) action c.args.state.now c.args.store.now c.in_ok-after-in-Skip.after)
    (sym (ap (action_of (laid_tree view.laid.now) view.task view.tests_pointer view.answer) c.in-Skip.is)) (c.in_ok-after-in-Skip.ensures c.args.store.now)

pub returns-in_ok-after-in-Usable : goal.returns-in_ok-after-in-Usable
returns-in_ok-after-in-Usable c =
    let view = c.args.view.now in
    subst (λ action. IsAfter (around_of view) action c.args.state.now c.args.store.now c.in_ok-after-in-Usable.after)
    (sym (ap (action_of (laid_tree view.laid.now) view.task view.tests_pointer view.answer) c.in-Usable.is)) (c.in_ok-after-in-Usable.ensures c.args.store.now)

pub returns-in_ok-after-in-Assume : goal.returns-in_ok-after-in-Assume
returns-in_ok-after-in-Assume c =
    let view = c.args.view.now in
    subst (λ action. IsAfter (around_of view) action c.args.state.now c.args.store.now c.in_ok-after-in-Assume.after)
    (sym (ap (action_of (laid_tree view.laid.now) view.task view.tests_pointer view.answer) c.in-Assume.is)) (c.in_ok-after-in-Assume.ensures c.args.store.now)

pub returns-in_ok-after-in-Unlock : goal.returns-in_ok-after-in-Unlock
returns-in_ok-after-in-Unlock c =
    let view = c.args.view.now in
    subst (λ action. IsAfter (around_of view) action c.args.state.now c.args.store.now c.in_ok-after-in-Unlock.after)
    (sym (ap (action_of (laid_tree view.laid.now) view.task view.tests_pointer view.answer) c.in-Unlock.is)) (c.in_ok-after-in-Unlock.ensures c.args.store.now)

pub returns-in_ok-after-in-Yield : goal.returns-in_ok-after-in-Yield
returns-in_ok-after-in-Yield c =
    let view = c.args.view.now in
    subst (λ action. IsAfter (around_of view) action c.args.state.now c.args.store.now c.in_ok-after-in-Yield.after)
    (sym (ap (action_of (laid_tree view.laid.now) view.task view.tests_pointer view.answer) c.in-Yield.is)) (c.in_ok-after-in-Yield.ensures c.args.store.now)
