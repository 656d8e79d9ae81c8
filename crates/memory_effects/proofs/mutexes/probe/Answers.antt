use Rattle.std.proofs.Common.{◌∙◌, ap, sym, Some}
use Rattle.pointer_dom.specs.PointerSets.{no_pointer}
use Rattle.edge_actions.specs.Edges.{around_of}
use Rattle.memory_effects.proofs.Effects.{probe_held, probe_never, probe_free}
use Rattle.memory_effects.proofs.mutexes.probe.Goals as goal

pub returns-then-view : goal.returns-then-view
returns-then-view c =
    probe_held (around_of c.args.view.now) c.args.state.now c.args.store.now c.plain.result c.plain.ensures.targets c.plain.ensures.added (c.plain.ensures.classes ∙ c.no_classes.ensures)
    c.args.mutex c.args.target c.args.view.now.answer c.if-view.true c.from_numbers-one.result
    (c.from_numbers-one.ensures ∙ ap (λ n. record { numbers = n; pointers = no_pointer }) c.one.ensures) (c.plain.ensures.state ∙ c.in_ok-given.ensures)

pub returns-then-has_mutex : goal.returns-then-has_mutex
returns-then-has_mutex c =
    probe_never (around_of c.args.view.now) c.args.state.now c.args.store.now c.plain-then-has_mutex.result c.plain-then-has_mutex.ensures.targets c.plain-then-has_mutex.ensures.added (c.plain-then-has_mutex.ensures.classes ∙ c.no_classes-then-has_mutex.ensures)
    c.args.mutex c.args.target c.args.view.now.answer c.if-view.false (sym c.has_mutex.ensures ∙ c.if-has_mutex.true) c.plain-then-has_mutex.ensures.state

pub returns : goal.returns
returns c =
    probe_free (around_of c.args.view.now) c.args.state.now c.args.store.now c.plain-2.result c.plain-2.ensures.targets c.plain-2.ensures.added (c.plain-2.ensures.classes ∙ c.no_classes-2.ensures)
    c.args.mutex c.args.target c.args.view.now.answer c.if-view.false (sym c.has_mutex.ensures ∙ c.if-has_mutex.false) (c.plain-2.ensures.state ∙ ap Some c.in_ok-after.ensures)
