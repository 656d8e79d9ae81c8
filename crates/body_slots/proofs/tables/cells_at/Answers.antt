use Rattle.std.proofs.Common.{◌<◌, ℕ, List, length, ap, subst, sym, ◌∙◌}
use Rattle.table_covers.specs.tm_lattice.Tables.{Table}
use Rattle.least_assignments.specs.Constraints.{at as value_at}
use Rattle.edge_actions.specs.transfer_rows.StateForms.{Cell, State}
use Rattle.cell_placings.specs.CellLists.{cells_at}
use Rattle.body_slots.specs.Slots.{Slots, SlotSystemOf, IsSlotSystem}
use Rattle.body_slots.specs.reading.Tables.{AreKept}
use Rattle.body_slots.proofs.Kept.{above_within, none_kept, before_kept}
use Rattle.body_slots.proofs.tables.cells_at.Goals as goal

pub put_cells-requires-clause-kept : goal.put_cells-requires-clause-kept
put_cells-requires-clause-kept c =
    let v = c.args.system.now in
    let a = value_at c.args.values.now in
    let n : ℕ = c.args.node in
    let slots_is = c.slots.view_is ∙ ap (λ (w : SlotSystemOf). w.slots) c.system.view_is in
    subst (λ (zs : List ℕ). AreKept v a n zs c.new.result)
    (sym (c.cells-all.ensures.same ∙ ap (λ (u : Slots). u.cells) slots_is))
    (subst (λ (t : Table Cell). AreKept v a n v.slots.cells t) (sym c.new.ensures)
    (none_kept v a (subst IsSlotSystem c.system.view_is c.system.invariant) n))

pub owned-own-requires : goal.owned-own-requires
owned-own-requires c =
    let v = c.args.system.now in
    let slots_is = c.slots.view_is ∙ ap (λ (w : SlotSystemOf). w.slots) c.system.view_is in
    subst (λ (u : Slots). c.args.node < length u.tree.above) (sym slots_is)
    (above_within v (value_at c.args.values.now) (subst IsSlotSystem c.system.view_is c.system.invariant) c.args.node
    c.requires.node)

pub put_cells-requires-in-Some-clause-kept : goal.put_cells-requires-in-Some-clause-kept
put_cells-requires-in-Some-clause-kept c =
    let v = c.args.system.now in
    let a = value_at c.args.values.now in
    let n : ℕ = c.args.node in
    let t = c.in-Some.state.now in
    let slots_is = c.slots.view_is ∙ ap (λ (w : SlotSystemOf). w.slots) c.system.view_is in
    let from = rw c.in-Some.is at c.requires.before in
    subst (λ (zs : List ℕ). AreKept v a n zs c.in_ok-cells-in-Some.cells)
    (sym (c.owned-own.ensures.same ∙ ap (λ (u : Slots). cells_at u.tree.owned n) slots_is))
    (subst (λ (q : Table Cell). AreKept v a n (cells_at v.slots.tree.owned n) q)
    (sym (c.in_ok-cells-in-Some.ensures ∙ (c.cells.ensures ∙ ap (λ (q : State). q.cells) c.state.ensures)))
    (before_kept v a (subst IsSlotSystem c.system.view_is c.system.invariant) n t from))
