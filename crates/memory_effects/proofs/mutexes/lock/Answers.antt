use Rattle.std.proofs.Common.{◌∙◌, ap, sym, Some}
use Rattle.edge_actions.specs.Edges.{around_of}
use Rattle.memory_effects.proofs.Effects.{lock_held, lock_free}
use Rattle.memory_effects.proofs.mutexes.lock.Goals as goal

pub returns-then-has_mutex : goal.returns-then-has_mutex
returns-then-has_mutex c =
    lock_held (around_of c.args.view.now) c.args.state.now c.args.store.now c.plain.result c.plain.ensures.targets c.plain.ensures.added c.args.mutex (sym c.has_mutex.ensures ∙ c.if-has_mutex.true)
    (c.plain.ensures.classes ∙ c.lock_class.ensures) c.plain.ensures.state

pub returns : goal.returns
returns c =
    lock_free (around_of c.args.view.now) c.args.state.now c.args.store.now c.plain-2.result c.plain-2.ensures.targets c.plain-2.ensures.added c.args.mutex (sym c.has_mutex.ensures ∙ c.if-has_mutex.false)
    (c.plain-2.ensures.classes ∙ c.lock_class-2.ensures) (c.plain-2.ensures.state ∙ ap Some c.in_ok-after.ensures)
