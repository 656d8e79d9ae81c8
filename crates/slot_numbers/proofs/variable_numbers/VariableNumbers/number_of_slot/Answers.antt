use Rattle.std.proofs.Common.{◌≡◌, ◌+◌, subst, arith, rules, true, false, Ok, Err}
use Rattle.std.specs.List.Sorted.{IsBinarySearchResult}
use Rattle.std.specs.Ordering.{nat_cmp}
use Rattle.front_constraints.specs.Systems.{slot_at}
use Rattle.slot_numbers.specs.Numberings.{VariableLists, has_slot, number_of}
use Rattle.slot_numbers.specs.reading.Building.{lists_of}
use Rattle.slot_numbers.proofs.Whole.{slot_found, slot_missed}
use Rattle.slot_numbers.proofs.variable_numbers.VariableNumbers.number_of_slot.Goals as goal

pub overflow_add-result : goal.overflow_add-result
overflow_add-result c =
    let found = slot_found c.self.inside.first_slot c.self.inside.count
    (lists_of c.self.inside.nodes c.self.inside.edges c.self.inside.owned.items c.self.inside.starts.items c.self.inside.slots.items)
    c.self.invariant c.args.node c.args.cell c.index-own.result.now c.cells-cells.ensures.rising (search rules)
    c.index-own.ensures c.in-Ok.place
    (subst (λ xs. IsBinarySearchResult (λ y. nat_cmp y c.args.cell) xs (Ok c.in-Ok.place)) c.cells-cells.ensures.same
    c.in-Ok.ensures.position) c.index.result.now c.index.ensures in
    let fits = found.1 in
    omega (arith, fits)

pub overflow_add-result-in-Ok : goal.overflow_add-result-in-Ok
overflow_add-result-in-Ok c =
    let found = slot_found c.self.inside.first_slot c.self.inside.count
    (lists_of c.self.inside.nodes c.self.inside.edges c.self.inside.owned.items c.self.inside.starts.items c.self.inside.slots.items)
    c.self.invariant c.args.node c.args.cell c.index-own.result.now c.cells-cells.ensures.rising (search rules)
    c.index-own.ensures c.in-Ok.place
    (subst (λ xs. IsBinarySearchResult (λ y. nat_cmp y c.args.cell) xs (Ok c.in-Ok.place)) c.cells-cells.ensures.same
    c.in-Ok.ensures.position) c.index.result.now c.index.ensures in
    let fits = found.1 in
    omega (arith, fits)

pub returns-in-Ok : goal.returns-in-Ok
returns-in-Ok c =
    let found = slot_found c.self.inside.first_slot c.self.inside.count
    (lists_of c.self.inside.nodes c.self.inside.edges c.self.inside.owned.items c.self.inside.starts.items c.self.inside.slots.items)
    c.self.invariant c.args.node c.args.cell c.index-own.result.now c.cells-cells.ensures.rising (search rules)
    c.index-own.ensures c.in-Ok.place
    (subst (λ xs. IsBinarySearchResult (λ y. nat_cmp y c.args.cell) xs (Ok c.in-Ok.place)) c.cells-cells.ensures.same
    c.in-Ok.ensures.position) c.index.result.now c.index.ensures in
    subst (λ (v : VariableLists). (has_slot v c.args.node c.args.cell ≡ true)
    × (c.self.inside.first_slot + (c.index.result.now + c.in-Ok.place)
    ≡ number_of v (slot_at c.args.node c.args.cell))) c.self.view_is (found.0, found.2)

pub returns-in-Err : goal.returns-in-Err
returns-in-Err c =
    subst (λ (v : VariableLists). has_slot v c.args.node c.args.cell ≡ false) c.self.view_is
    (slot_missed c.self.inside.first_slot c.self.inside.count
    (lists_of c.self.inside.nodes c.self.inside.edges c.self.inside.owned.items c.self.inside.starts.items c.self.inside.slots.items)
    c.self.invariant c.args.node c.args.cell c.index-own.result.now c.cells-cells.ensures.rising (search rules)
    c.index-own.ensures c.in-Err.field-0
    (subst (λ xs. IsBinarySearchResult (λ y. nat_cmp y c.args.cell) xs (Err c.in-Err.field-0)) c.cells-cells.ensures.same
    c.in-Err.ensures.position))
