use Rattle.std.proofs.Common.{◌≡◌, ◌<◌, ◌∙◌, ℕ, List, true, sym, ap, subst, length, get_or}
use Rattle.cell_placings.specs.CellLists.{cells_at}
use Rattle.front_constraints.specs.Rules.{is_read}
use Rattle.slot_numbers.specs.Numberings.{numbers_of}
use Rattle.slot_numbers.specs.laws.Systems.{readers_within, readers_all}
use Rattle.body_slots.specs.Slots.{Slots, SlotSystemOf, IsSlotSystem, sparse_of}
use Rattle.body_slots.specs.laws.Chosen.{over}
use Rattle.body_slots.proofs.systems.SlotSystemConstraintSystem.readers.Goals as goal

pub returns-clause-within : goal.returns-clause-within
returns-clause-within c =
    let v = c.args.self.now in
    let s = v.slots in
    let numbers = numbers_of s.numbering in
    let keeps = subst IsSlotSystem c.self.view_is c.self.invariant in
    let same = c.slots.view_is ∙ ap (λ (u : SlotSystemOf). u.slots) c.self.view_is in
    let read = c.readers.ensures ∙ ap (λ (u : Slots). (let n = u.numbering in cells_at n.readers c.args.variable)) same in
    subst (λ (xs : List ℕ). (j : ℕ) → j < length xs → get_or xs j 0 < numbers.constraint_count) (sym read)
    (readers_within (sparse_of v) s.graph s.tree s.cells s.numbering (over v keeps) keeps.slots.numbered c.args.variable)

pub returns-clause-all : goal.returns-clause-all
returns-clause-all c =
    let v = c.args.self.now in
    let s = v.slots in
    let numbers = numbers_of s.numbering in
    let keeps = subst IsSlotSystem c.self.view_is c.self.invariant in
    let same = c.slots.view_is ∙ ap (λ (u : SlotSystemOf). u.slots) c.self.view_is in
    let read = c.readers.ensures ∙ ap (λ (u : Slots). (let n = u.numbering in cells_at n.readers c.args.variable)) same in
    subst (λ (xs : List ℕ). (k : ℕ) → k < numbers.constraint_count
    → is_read (sparse_of v) (numbers.rule k) (numbers.variable c.args.variable) ≡ true
    → (j : ℕ) × ((j < length xs) × (get_or xs j 0 ≡ k))) (sym read)
    (λ k lt reads. readers_all (sparse_of v) s.graph s.tree s.cells s.numbering (over v keeps) keeps.slots.numbered k
    c.args.variable c.requires lt reads)
