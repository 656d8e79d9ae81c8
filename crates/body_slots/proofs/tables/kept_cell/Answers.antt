use Rattle.std.proofs.Common.{◌≡◌, ◌<◌, ℕ, true, false, length, ap, subst, sym, ◌∙◌}
use Rattle.least_assignments.specs.Constraints.{at as value_at}
use Rattle.front_constraints.specs.Systems.{slot_at}
use Rattle.cell_placings.specs.OwnerTrees.{kept_in}
use Rattle.slot_numbers.specs.Numberings.{has_slot, number_of}
use Rattle.body_slots.specs.Slots.{Slots, SlotSystemOf, IsSlotSystem}
use Rattle.body_slots.proofs.Kept.{above_within, no_slot, some_slot}
use Rattle.body_slots.proofs.tables.kept_cell.Goals as goal

pub kept_at-keeper-requires : goal.kept_at-keeper-requires
kept_at-keeper-requires c =
    let v = c.args.system.now in
    let slots_is = c.slots.view_is ∙ ap (λ (w : SlotSystemOf). w.slots) c.system.view_is in
    subst (λ (u : Slots). c.args.node < length u.tree.above) (sym slots_is)
    (above_within v (value_at c.args.values.now) (subst IsSlotSystem c.system.view_is c.system.invariant) c.args.node
    c.requires)

pub returns-in-None : goal.returns-in-None
returns-in-None c =
    let v = c.args.system.now in
    let n : ℕ = c.args.node in
    let x : ℕ = c.args.cell in
    let slots_is = c.slots.view_is ∙ ap (λ (w : SlotSystemOf). w.slots) c.system.view_is in
    no_slot v (value_at c.args.values.now) (subst IsSlotSystem c.system.view_is c.system.invariant) n x c.requires
    (subst (λ (u : Slots). has_slot u.numbering.variables (kept_in u.tree n x) x ≡ false) slots_is
    (subst (λ (k : ℕ). has_slot c.slots.inside.numbers.variables k x ≡ false) c.kept_at-keeper.ensures
    c.in-None.ensures))

pub returns-in-Some : goal.returns-in-Some
returns-in-Some c =
    let v = c.args.system.now in
    let n : ℕ = c.args.node in
    let x : ℕ = c.args.cell in
    let i : ℕ = c.in-Some.variable in
    let slots_is = c.slots.view_is ∙ ap (λ (w : SlotSystemOf). w.slots) c.system.view_is in
    let both = subst (λ (u : Slots). (has_slot u.numbering.variables (kept_in u.tree n x) x ≡ true)
    × (i ≡ number_of u.numbering.variables (slot_at (kept_in u.tree n x) x))) slots_is
    (subst (λ (k : ℕ). (has_slot c.slots.inside.numbers.variables k x ≡ true)
    × (i ≡ number_of c.slots.inside.numbers.variables (slot_at k x))) c.kept_at-keeper.ensures c.in-Some.ensures) in
    c.cell_at.ensures
    ∙ some_slot v (value_at c.args.values.now) (subst IsSlotSystem c.system.view_is c.system.invariant) n x i c.requires
    both.0 both.1
