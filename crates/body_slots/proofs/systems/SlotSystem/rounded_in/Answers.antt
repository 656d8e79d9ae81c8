use Rattle.std.proofs.Common.{◌∙◌, ℕ, List, Option, sym, ap, subst}
use Rattle.edge_actions.specs.transfer_rows.StateForms.{Cell}
use Rattle.cell_placings.specs.CellLists.{is_in, cells_at}
use Rattle.body_systems.specs.Systems.{body_of}
use Rattle.body_slots.specs.Slots.{Slots, SlotSystemOf, IsSlotSystem}
use Rattle.cell_env.specs.Cells.{rounded_cell}
use Rattle.pointer_dom.specs.Values.{rounded_values}
use Rattle.task_equations.specs.Equations.{cells_at as rounded_cells}
use Rattle.front_constraints.specs.Standings.{changed_standing}
use Rattle.body_fronts.specs.BodySystems.{rounded_where}
use Rattle.body_slots.specs.laws.Held.{is_rounded, not_rounded}
use Rattle.body_slots.proofs.systems.SlotSystem.rounded_in.Goals as goal

pub returns-then-not-has_cell : goal.returns-then-not-has_cell
returns-then-not-has_cell c =
    let v = c.args.self.now in
    let keeps = subst IsSlotSystem c.self.view_is c.self.invariant in
    let same = c.slots.view_is ∙ ap (λ (u : SlotSystemOf). u.slots) c.self.view_is in
    let set = ap (λ (xs : List (List ℕ)). is_in (cells_at xs c.args.node) c.args.cell) c.deref.ensures.value
    ∙ ap (λ (u : Slots). (let g = u.graph in is_in (cells_at g.rounded.items c.args.node) c.args.cell)) same in
    let other = sym set ∙ sym c.has_cell.ensures ∙ c.if-not-has_cell.true in
    not_rounded v keeps c.args.node c.args.cell c.requires other c.args.value

pub returns-in_ok-round-in-Some : goal.returns-in_ok-round-in-Some
returns-in_ok-round-in-Some c =
    let v = c.args.self.now in
    let s = v.slots in
    let b = body_of v.system in
    let keeps = subst IsSlotSystem c.self.view_is c.self.invariant in
    let same = c.slots.view_is ∙ ap (λ (u : SlotSystemOf). u.slots) c.self.view_is in
    let marks = c.marks.ensures ∙ ap (λ (u : SlotSystemOf). (let x = u.system in x.marks)) c.self.view_is in
    let set = ap (λ (xs : List (List ℕ)). is_in (cells_at xs c.args.node) c.args.cell) c.deref.ensures.value
    ∙ ap (λ (u : Slots). (let g = u.graph in is_in (cells_at g.rounded.items c.args.node) c.args.cell)) same in
    let within = sym set ∙ sym c.has_cell.ensures ∙ c.if-not-has_cell.false in
    let round = c.in_ok-round-in-Some.ensures ∙ ap (λ m. rounded_cell (rounded_values m) c.in-Some.held) marks in
    is_rounded v keeps c.args.node c.args.cell c.requires within c.args.value.front c.in-Some.held
    c.in_ok-round-in-Some.field-0 round
    ∙ ap (λ (y : Option Cell). changed_standing (λ f. f) (rounded_where b.marks (rounded_cells b c.args.node) c.args.cell)
    (record { front = c.args.value.front; cell = y })) (sym c.in-Some.is)
