use Rattle.std.proofs.Common.{ℕ, Option, Some, Bor, ap, subst, sym, ◌∙◌}
use Rattle.std.specs.Option.{option_copied}
use Rattle.std.specs.FinMap.{get}
use Rattle.table_covers.specs.tm_lattice.Tables.{Table}
use Rattle.sparse_rows.specs.Traces.{AreCopies}
use Rattle.least_assignments.specs.Constraints.{at as value_at}
use Rattle.edge_actions.specs.transfer_rows.StateForms.{Temp, State}
use Rattle.row_checks.specs.TracedCells.{may_copy, may_be_fresh, may_pend}
use Rattle.body_slots.specs.Slots.{Slots, SlotSystemOf, IsSlotSystem}
use Rattle.body_slots.specs.reading.Tables.{IsMadeAt}
use Rattle.body_slots.proofs.Kept.{node_state, node_traced}
use Rattle.body_slots.proofs.tables.state_at.Goals as goal

pub returns : goal.returns
returns c =
    let v = c.args.system.now in
    let a = value_at c.args.values.now in
    let n : ℕ = c.args.node in
    let f = c.in-Some.front.now in
    let is = subst IsSlotSystem c.system.view_is c.system.invariant in
    let slots_is = c.slots.view_is ∙ ap (λ (w : SlotSystemOf). w.slots) c.system.view_is in
    let front = sym c.front_at.ensures ∙ ap (λ (o : Option (Bor (Table Temp))). option_copied o) c.in-Some.is in
    let kept = rw c.in-Some-2.is at c.in_ok-cells.ensures in
    let copied = subst (λ (u : Slots). (t : ℕ)
    → AreCopies (may_copy u.traces) (may_be_fresh u.traces) (may_pend u.traces) t (get f t)) slots_is
    (c.is_traced.ensures.0 c.if-not-is_traced.false) in
    let with_front : Table Temp → State = λ t. record { temps = t; cells = c.in-Some-2.cells } in
    subst (λ (q : State). IsMadeAt v a n (Some q))
    (sym (c.new.ensures ∙ (c.new-state.ensures ∙ ap with_front c.in_ok-copied.ensures)))
    (record {
      state = node_state v a is c.requires.fits n c.requires.node f front c.in-Some-2.cells kept;
      traced = node_traced v a is c.requires.fits n c.requires.node f front c.in-Some-2.cells kept copied;
    })
