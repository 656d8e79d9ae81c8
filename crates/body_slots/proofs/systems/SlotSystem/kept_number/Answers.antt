use Rattle.std.proofs.Common.{◌<◌, ◌∙◌, sym, ap, subst, length}
use Rattle.body_slots.specs.Slots.{Slots, SlotSystemOf, IsSlotSystem}
use Rattle.body_slots.proofs.systems.SlotSystem.kept_number.Goals as goal

pub kept_at-keeper-requires : goal.kept_at-keeper-requires
kept_at-keeper-requires c =
    let keeps = subst IsSlotSystem c.self.view_is c.self.invariant in
    let same = c.slots.view_is ∙ ap (λ (v : SlotSystemOf). v.slots) c.self.view_is in
    subst (λ (s : Slots). c.args.node < length s.tree.above) (sym same)
    (subst (λ m. c.args.node < m) (sym keeps.slots.tree_each) c.requires.node)
