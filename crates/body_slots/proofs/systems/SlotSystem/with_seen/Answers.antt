use Rattle.std.proofs.Common.{◌≡◌, ◌<◌, ◌∙◌, ℕ, List, Some, true, sym, ap, subst, length, get_or, suc, arith}
use Rattle.std.specs.Prelude.{◌+◌}
use Rattle.std.proofs.lemmas.List.{length-map}
use Rattle.cell_placings.specs.CellLists.{is_in, cells_at}
use Rattle.cell_placings.specs.OwnerTrees.{kept_in}
use Rattle.table_covers.specs.tm_lattice.Tables.{Table}
use Rattle.edge_actions.specs.transfer_rows.StateForms.{Cell}
use Rattle.task_equations.specs.Equations.{link_of}
use Rattle.least_assignments.specs.Constraints.{at}
use Rattle.front_constraints.specs.Systems.{slot_at}
use Rattle.front_constraints.specs.Rules.{seen_at}
use Rattle.slot_numbers.specs.Numberings.{numbers_of}
use Rattle.body_systems.specs.Systems.{body_of}
use Rattle.body_slots.specs.Slots.{Slots, SlotSystemOf, IsSlotSystem, sparse_of}
use Rattle.body_slots.specs.reading.Small.{put_over, AreThere}
use Rattle.body_slots.specs.laws.Seen.{not_ready_where}
use Rattle.body_slots.proofs.Reading.{set_at, link_from, looked_in, looked_small, looked_seen, seen_at_is, put_next, there_next}
use Rattle.body_slots.proofs.systems.SlotSystem.with_seen.Goals as goal

pub kept_number-number-requires-clause-cell : goal.kept_number-number-requires-clause-cell
kept_number-number-requires-clause-cell c =
    let v = c.args.self.now in
    let s = v.slots in
    let b = body_of v.system in
    let keeps = subst IsSlotSystem c.self.view_is c.self.invariant in
    let same = c.slots.view_is ∙ ap (λ (u : SlotSystemOf). u.slots) c.self.view_is in
    let looked = c.index-2.ensures
    ∙ ap (λ (u : Slots). (let g = u.graph in get_or g.looked.items c.args.edge c.index-2.result.now)) same in
    let list = c.cells-looked.ensures.same ∙ set_at s.graph.looked.items c.index-2.result.now c.args.edge (length b.copies)
    looked keeps.slots.looked_each (subst (λ m. c.args.edge < m) (length-map b.copies link_of) c.requires) in
    subst (λ (xs : List ℕ). (j : ℕ) → j < length xs → is_in s.cells (get_or xs j 0) ≡ true) (sym list)
    (looked_in v keeps c.args.edge c.requires) c.loop-cell.cell-index c.loop-cell-test.true

pub returns-in-None : goal.returns-in-None
returns-in-None c =
    let v = c.args.self.now in
    let s = v.slots in
    let b = body_of v.system in
    let keeps = subst IsSlotSystem c.self.view_is c.self.invariant in
    let same = c.slots.view_is ∙ ap (λ (u : SlotSystemOf). u.slots) c.self.view_is in
    let looked = c.index-2.ensures
    ∙ ap (λ (u : Slots). (let g = u.graph in get_or g.looked.items c.args.edge c.index-2.result.now)) same in
    let list = c.cells-looked.ensures.same ∙ set_at s.graph.looked.items c.index-2.result.now c.args.edge (length b.copies)
    looked keeps.slots.looked_each (subst (λ m. c.args.edge < m) (length-map b.copies link_of) c.requires) in
    let link = c.index.ensures
    ∙ ap (λ (u : Slots). (let g = u.graph in get_or g.links.items c.args.edge c.index.result.now)) same in
    let from-is = link_from b.copies s.graph.links.items c.index.result.now c.args.edge link keeps.slots.links c.requires in
    let i = c.loop-cell.cell-index in
    let lt = subst (λ (xs : List ℕ). i < length xs) list c.loop-cell-test.true in
    let key = ap (λ (xs : List ℕ). get_or xs i 0) list in
    let seen = looked_seen v keeps c.args.edge c.requires i lt in
    let numbers = numbers_of s.numbering in
    let number = subst (λ x. c.kept_number-number.result ≡ numbers.number (slot_at (kept_in s.tree c.index.result.now.from x) x))
    key c.kept_number-number.ensures in
    let stands = seen_at_is v keeps c.args.edge (get_or (cells_at s.graph.looked.items c.args.edge) i 0) seen
    c.index.result.now.from from-is c.kept_number-number.result number (at c.args.values.now) in
    not_ready_where v keeps c.args.edge c.requires (at c.args.values.now) i lt (sym stands ∙ sym c.in-None.ensures)

pub overflow_cast-cell : goal.overflow_cast-cell
overflow_cast-cell c =
    let v = c.args.self.now in
    let s = v.slots in
    let b = body_of v.system in
    let keeps = subst IsSlotSystem c.self.view_is c.self.invariant in
    let same = c.slots.view_is ∙ ap (λ (u : SlotSystemOf). u.slots) c.self.view_is in
    let looked = c.index-2.ensures
    ∙ ap (λ (u : Slots). (let g = u.graph in get_or g.looked.items c.args.edge c.index-2.result.now)) same in
    let list = c.cells-looked.ensures.same ∙ set_at s.graph.looked.items c.index-2.result.now c.args.edge (length b.copies)
    looked keeps.slots.looked_each (subst (λ m. c.args.edge < m) (length-map b.copies link_of) c.requires) in
    let small = subst (λ (xs : List ℕ). (j : ℕ) → j < length xs → get_or xs j 0 < 4294967296) (sym list)
    (looked_small v keeps c.args.edge c.requires) c.loop-cell.cell-index c.loop-cell-test.true in
    record { fits = small }

pub loop-cell-preserved : goal.loop-cell-preserved
loop-cell-preserved c =
    let v = c.args.self.now in
    let s = v.slots in
    let b = body_of v.system in
    let keeps = subst IsSlotSystem c.self.view_is c.self.invariant in
    let same = c.slots.view_is ∙ ap (λ (u : SlotSystemOf). u.slots) c.self.view_is in
    let looked = c.index-2.ensures
    ∙ ap (λ (u : Slots). (let g = u.graph in get_or g.looked.items c.args.edge c.index-2.result.now)) same in
    let list = c.cells-looked.ensures.same ∙ set_at s.graph.looked.items c.index-2.result.now c.args.edge (length b.copies)
    looked keeps.slots.looked_each (subst (λ m. c.args.edge < m) (length-map b.copies link_of) c.requires) in
    let link = c.index.ensures
    ∙ ap (λ (u : Slots). (let g = u.graph in get_or g.links.items c.args.edge c.index.result.now)) same in
    let from-is = link_from b.copies s.graph.links.items c.index.result.now c.args.edge link keeps.slots.links c.requires in
    let i = c.loop-cell.cell-index in
    let lt = subst (λ (xs : List ℕ). i < length xs) list c.loop-cell-test.true in
    let key = ap (λ (xs : List ℕ). get_or xs i 0) list in
    let seen = looked_seen v keeps c.args.edge c.requires i lt in
    let numbers = numbers_of s.numbering in
    let number = subst (λ x. c.kept_number-number.result ≡ numbers.number (slot_at (kept_in s.tree c.index.result.now.from x) x))
    key c.kept_number-number.ensures in
    let stands = seen_at_is v keeps c.args.edge (get_or (cells_at s.graph.looked.items c.args.edge) i 0) seen
    c.index.result.now.from from-is c.kept_number-number.result number (at c.args.values.now) in
    let sys = sparse_of v in
    let value = c.in_ok-copied-in-Some.ensures in
    let there = sym stands ∙ sym c.in-Some.ensures ∙ ap Some (sym value) in
    let next = put_next (seen_at sys c.args.edge (at c.args.values.now)) c.args.before c.loop-cell.cells
    (cells_at s.graph.looked.items c.args.edge) i c.in_ok-copied-in-Some.field-0 c.loop-cell.invariant.0 there in
    let one : suc i ≡ i + 1 = omega arith in
    subst (λ m. (c.in_ok-cells-in-Some.cells ≡ put_over (seen_at sys c.args.edge (at c.args.values.now)) c.args.before
    (cells_at s.graph.looked.items c.args.edge) m)
    × AreThere (seen_at sys c.args.edge (at c.args.values.now)) (cells_at s.graph.looked.items c.args.edge) m) one (
      c.in_ok-cells-in-Some.ensures.written (λ n. n) ∙ ap (λ (t : Table Cell). Rattle.std.specs.FinMap.insert t (get_or c.cells-looked.result.now i 0)
          c.in_ok-copied-in-Some.field-0) c.cells-in-Some.view_is ∙ ap (λ x. Rattle.std.specs.FinMap.insert c.loop-cell.cells x
          c.in_ok-copied-in-Some.field-0) key ∙ next,
      there_next (seen_at sys c.args.edge (at c.args.values.now)) (cells_at s.graph.looked.items c.args.edge) i
          c.in_ok-copied-in-Some.field-0 c.loop-cell.invariant.1 there,
    )

pub returns : goal.returns
returns c =
    let v = c.args.self.now in
    let s = v.slots in
    let b = body_of v.system in
    let keeps = subst IsSlotSystem c.self.view_is c.self.invariant in
    let same = c.slots.view_is ∙ ap (λ (u : SlotSystemOf). u.slots) c.self.view_is in
    let looked = c.index-2.ensures
    ∙ ap (λ (u : Slots). (let g = u.graph in get_or g.looked.items c.args.edge c.index-2.result.now)) same in
    let list = c.cells-looked.ensures.same ∙ set_at s.graph.looked.items c.index-2.result.now c.args.edge (length b.copies)
    looked keeps.slots.looked_each (subst (λ m. c.args.edge < m) (length-map b.copies link_of) c.requires) in
    let sys = sparse_of v in
    let a = at c.args.values.now in
    let all : c.loop-cell.cell-index ≡ length c.cells-looked.result.now =
    omega (arith, c.loop-cell-test.false, c.loop-cell.auto.cell-index-end) in
    let count : c.loop-cell.cell-index ≡ length (cells_at s.graph.looked.items c.args.edge) =
    all ∙ ap (λ (xs : List ℕ). length xs) list in
    let there = subst (λ n. AreThere (seen_at sys c.args.edge a) (cells_at s.graph.looked.items c.args.edge) n) count
    c.loop-cell.invariant.1 in record {
      there = there;
      over = c.loop-cell.invariant.0
          ∙ ap (λ n. put_over (seen_at sys c.args.edge a) c.args.before (cells_at s.graph.looked.items c.args.edge) n)
          count;
    }
