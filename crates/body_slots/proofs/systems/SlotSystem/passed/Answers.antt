use Rattle.std.proofs.Common.{◌∙◌, sym, ap, subst, get_or}
use Rattle.std.specs.Prelude.{[], ◌∷◌, is_some}
use Rattle.std.proofs.lemmas.Result.{IfOk-weaker}
use Rattle.cell_placings.specs.OwnerTrees.{kept_in}
use Rattle.least_assignments.specs.Constraints.{at}
use Rattle.front_constraints.specs.Systems.{slot_at, open_at}
use Rattle.front_constraints.specs.Rules.{carried_along}
use Rattle.slot_numbers.specs.Numberings.{numbers_of}
use Rattle.body_systems.specs.Systems.{body_of}
use Rattle.body_slots.specs.Slots.{Slots, SlotSystemOf, IsSlotSystem, sparse_of}
use Rattle.body_slots.proofs.Reading.{link_from, flow_there, flow_not}
use Rattle.body_slots.proofs.systems.SlotSystem.passed.Goals as goal

pub returns-then-not-is_there : goal.returns-then-not-is_there
returns-then-not-is_there c =
    let v = c.args.self.now in
    let s = v.slots in
    let b = body_of v.system in
    let keeps = subst IsSlotSystem c.self.view_is c.self.invariant in
    let same = c.slots.view_is ∙ ap (λ (u : SlotSystemOf). u.slots) c.self.view_is in
    let seen = sym (keeps.slots.seen c.args.cell) ∙ c.requires.cell in
    let numbers = numbers_of s.numbering in
    let number = c.number_of_open.ensures
    ∙ ap (λ (u : Slots). (let n = numbers_of u.numbering in n.number (open_at c.args.edge))) same in
    flow_not v keeps c.args.edge c.args.cell seen (at c.args.values.now)
    (ap (λ n. is_some (at c.args.values.now n)) (sym number) ∙ sym c.is_there.ensures ∙ c.if-not-is_there.true)

pub returns : goal.returns
returns c =
    let v = c.args.self.now in
    let s = v.slots in
    let b = body_of v.system in
    let keeps = subst IsSlotSystem c.self.view_is c.self.invariant in
    let same = c.slots.view_is ∙ ap (λ (u : SlotSystemOf). u.slots) c.self.view_is in
    let seen = sym (keeps.slots.seen c.args.cell) ∙ c.requires.cell in
    let numbers = numbers_of s.numbering in
    let number = c.number_of_open.ensures
    ∙ ap (λ (u : Slots). (let n = numbers_of u.numbering in n.number (open_at c.args.edge))) same in
    let link = c.index.ensures
    ∙ ap (λ (u : Slots). (let g = u.graph in get_or g.links.items c.args.edge c.index.result.now)) same in
    let from-is = link_from b.copies s.graph.links.items c.index.result.now c.args.edge link keeps.slots.links
    c.requires.edge in
    let is-open = ap (λ n. is_some (at c.args.values.now n)) (sym number) ∙ sym c.is_there.ensures ∙ c.if-not-is_there.false in
    let slot = c.kept_number-number.ensures
    ∙ ap (λ n. numbers.number (slot_at (kept_in s.tree n c.args.cell) c.args.cell)) from-is in
    IfOk-weaker c.carried.result _ _ (λ brought is.
    (λ i. (is ∙ ap (λ n. carried_along (sparse_of v) c.args.edge c.args.cell (at c.args.values.now n)) slot) i ∷ [])
    ∙ flow_there v keeps c.args.edge c.args.cell seen (at c.args.values.now) is-open) c.carried.ensures

pub carried-requires-clause-cell : goal.carried-requires-clause-cell
carried-requires-clause-cell c =
    let v = c.args.self.now in
    let keeps = subst IsSlotSystem c.self.view_is c.self.invariant in
    keeps.slots.small c.args.cell c.requires.cell
