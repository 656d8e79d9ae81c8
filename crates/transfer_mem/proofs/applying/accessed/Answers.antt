use Rattle.std.proofs.Common.{sym, ap, subst}
use Rattle.tm_laid.specs.Layouts.{laid_tree}
use Rattle.memory_effects.specs.edge_actions.Edges.{around_of, action_of}
use Rattle.memory_effects.specs.edge_effects.Effects.{IsAfter}
use Rattle.transfer_mem.proofs.applying.accessed.Goals as goal

pub returns-in_ok-after-in-LoadAny : goal.returns-in_ok-after-in-LoadAny
returns-in_ok-after-in-LoadAny c =
    let view = c.args.view.now in
    subst (λ action. IsAfter (around_of view) action c.args.state.now c.args.store.now c.in_ok-after-in-LoadAny.after)
    (sym (ap (action_of (laid_tree view.laid.now) view.task view.tests_pointer view.answer) c.in-LoadAny.is)) (c.in_ok-after-in-LoadAny.ensures c.args.store.now)

pub returns-in_ok-after-in-Store : goal.returns-in_ok-after-in-Store
returns-in_ok-after-in-Store c =
    let view = c.args.view.now in
    subst (λ action. IsAfter (around_of view) action c.args.state.now c.args.store.now c.in_ok-after-in-Store.after)
    (sym (ap (action_of (laid_tree view.laid.now) view.task view.tests_pointer view.answer) c.in-Store.is)) (c.in_ok-after-in-Store.ensures c.args.store.now)

pub returns-in_ok-after-in-Clear : goal.returns-in_ok-after-in-Clear
returns-in_ok-after-in-Clear c =
    let view = c.args.view.now in
    subst (λ action. IsAfter (around_of view) action c.args.state.now c.args.store.now c.in_ok-after-in-Clear.after)
    (sym (ap (action_of (laid_tree view.laid.now) view.task view.tests_pointer view.answer) c.in-Clear.is)) (c.in_ok-after-in-Clear.ensures c.args.store.now)
