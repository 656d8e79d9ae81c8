use Rattle.std.proofs.Common.{◌<◌, ◌∙◌, ℕ, List, Some, sym, ap, subst, length, get_or}
use Rattle.std.specs.Prelude.{[], ◌∷◌, ◌++◌}
use Rattle.std.proofs.lemmas.Result.{IfOk-weaker}
use Rattle.edge_actions.specs.transfer_rows.StateForms.{State}
use Rattle.front_constraints.specs.Standings.{fronted}
use Rattle.body_slots.specs.Slots.{Slots, SlotSystemOf, IsSlotSystem}
use Rattle.body_slots.specs.Rows.{held_among}
use Rattle.body_slots.specs.laws.Held.{listed_small, entered_is}
use Rattle.body_slots.proofs.systems.SlotSystem.entered.Goals as goal

pub with_held-requires : goal.with_held-requires
with_held-requires c =
    let v = c.args.self.now in
    let keeps = subst IsSlotSystem c.self.view_is c.self.invariant in
    let same = c.slots.view_is ∙ ap (λ (u : SlotSystemOf). u.slots) c.self.view_is in
    let read = c.cells-listed.ensures.same ∙ ap (λ (u : Slots). u.cells) same in
    subst (λ (xs : List ℕ). (j : ℕ) → j < length xs → get_or xs j 0 < 4294967296) (sym read) (listed_small v keeps)

pub returns : goal.returns
returns c = λ a.
    let v = c.args.self.now in
    let keeps = subst IsSlotSystem c.self.view_is c.self.invariant in
    let same = c.slots.view_is ∙ ap (λ (u : SlotSystemOf). u.slots) c.self.view_is in
    let read = c.cells-listed.ensures.same ∙ ap (λ (u : Slots). u.cells) same in
    let entry = ap (λ (u : SlotSystemOf). u.entry) c.self.view_is in
    let front = c.in_ok-front_of.ensures ∙ ap (λ (t : State). Some (fronted t.temps)) entry in
    let table = c.cells.ensures ∙ ap (λ (t : State). t.cells) entry in
    let first = c.in_ok-push.ensures.items ∙ (λ i. c.in_ok-first.ensures.items i ++ (front i ∷ [])) in
    IfOk-weaker c.with_held.result _ _ (λ all gives.
    gives ∙ (λ i. first i ++ held_among (table i) (read i)) ∙ sym (entered_is v keeps a)) c.with_held.ensures
