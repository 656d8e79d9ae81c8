use Rattle.std.proofs.Common.{◌≡◌, ◌↔◌, ◌⊎◌, sym, subst, OnOk}
use Rattle.std.specs.Prelude.{Contains}
use Rattle.tm_laid.specs.Layouts.{laid_tree}
use Rattle.flow_graph.specs.declared.operations.Operation.{Operation}
use Rattle.alarm_contexts.specs.declared.flaws.ObjectFlaw.{ObjectFlaw as AFlaw}
use Rattle.alarm_contexts.specs.Flaws.{IsWrong}
use Rattle.alarm_contexts.proofs.pointers.add_wrong.Goals as goal

pub returns-in-Deref : goal.returns-in-Deref
unfolding IsWrong
returns-in-Deref c =
    subst (λ (op : Operation). OnOk c.add_followed.result ((f : AFlaw) → Contains c.add_followed.new.flaws.items f
    ↔ (Contains c.args.flaws.now.items f ⊎ ((f.object ≡ c.args.object)
    × IsWrong (laid_tree c.args.laid.now) op c.args.counts.now c.args.object c.args.offsets.now f.flaw))))
    (sym c.in-Deref.is) c.add_followed.ensures

pub returns-in-Move : goal.returns-in-Move
unfolding IsWrong
returns-in-Move c =
    subst (λ (op : Operation). OnOk c.add_moved.result ((f : AFlaw) → Contains c.add_moved.new.flaws.items f
    ↔ (Contains c.args.flaws.now.items f ⊎ ((f.object ≡ c.args.object)
    × IsWrong (laid_tree c.args.laid.now) op c.args.counts.now c.args.object c.args.offsets.now f.flaw))))
    (sym c.in-Move.is) c.add_moved.ensures
