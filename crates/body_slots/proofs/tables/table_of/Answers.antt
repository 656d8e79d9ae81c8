use Rattle.std.proofs.Common.{◌<◌, ℕ, List, length, get_or, Option, None, IfSome, ap, subst, sym, ◌∙◌, arith}
use Rattle.std.proofs.lemmas.List.{get_or_default}
use Rattle.least_assignments.specs.Constraints.{at as value_at}
use Rattle.edge_actions.specs.transfer_rows.StateForms.{State}
use Rattle.body_slots.specs.Slots.{Slots, SlotSystemOf}
use Rattle.body_slots.specs.reading.Tables.{IsMadeAt, IsEarlier}
use Rattle.body_slots.proofs.Kept.{before_is, next_made}
use Rattle.body_slots.proofs.tables.table_of.Goals as goal

pub state_at-requires-clause-before : goal.state_at-requires-clause-before
state_at-requires-clause-before c =
    let v = c.args.system.now in
    let a = value_at c.args.values.now in
    let n : ℕ = c.loop-node.node in
    let items = c.in_ok-earlier.earlier.items in
    let slots_is = c.slots.view_is ∙ ap (λ (w : SlotSystemOf). w.slots) c.system.view_is in
    let lt : n < length items = omega arith in
    let found = c.index.ensures ∙ get_or_default items n c.index.result.now None lt in
    let early = subst (λ (o : Option ℕ). IfSome o (IsEarlier v.slots.graph n)) (sym found)
    (subst (λ (u : Slots). IfSome (get_or items n None) (IsEarlier u.graph n)) slots_is
    (c.in_ok-earlier.ensures.edges n)) in
    before_is v a n c.state_before-before.result c.deref.result.now c.index.result.now c.state_before-before.ensures early
    (subst (λ (xs : List (Option State)). (k : ℕ) → k < n → IsMadeAt v a k (get_or xs k None))
    (sym c.deref.ensures.value) c.loop-node.invariant.1)

pub loop-node-preserved : goal.loop-node-preserved
loop-node-preserved c =
    let v = c.args.system.now in
    let a = value_at c.args.values.now in
    next_made (IsMadeAt v a) c.loop-node.table.items c.push.new.self.items c.loop-node.node c.in-Some.state
    c.in_ok-push.ensures.items c.loop-node.invariant.0 c.loop-node.invariant.1
    (rw c.in-Some.is at c.in_ok-state.ensures)
