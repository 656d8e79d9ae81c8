use Rattle.std.proofs.Common.{◌≡◌, ◌∙◌, ℕ, List, Option, Some, None, sym, ap}
use Rattle.std.specs.Option.{option_map}
use Rattle.std.proofs.lemmas.Result.{IfOk-weaker}
use Rattle.cell_placings.specs.CellLists.{is_in, cells_at}
use Rattle.least_assignments.specs.Constraints.{at}
use Rattle.front_constraints.specs.Standings.{changed_standing}
use Rattle.front_constraints.specs.Rules.{carried_along}
use Rattle.body_slots.specs.Slots.{Slots, SlotSystemOf, sparse_of}
use Rattle.body_slots.specs.Rows.{Stand}
use Rattle.body_slots.proofs.Reading.{carried_so, carried_not}
use Rattle.body_slots.proofs.systems.SlotSystem.carried.Goals as goal

pub returns-then-not-has_cell : goal.returns-then-not-has_cell
returns-then-not-has_cell c =
    let v = c.args.self.now in
    let e = c.args.edge in
    let x = c.args.cell in
    let same = c.slots.view_is ∙ ap (λ (u : SlotSystemOf). u.slots) c.self.view_is in
    let set = ap (λ (xs : List (List ℕ)). is_in (cells_at xs e) x) c.deref.ensures.value
    ∙ ap (λ (u : Slots). (let g = u.graph in is_in (cells_at g.carried.items e) x)) same in
    let not = sym set ∙ sym c.has_cell.ensures ∙ c.if-not-has_cell.true in
    let change = (let sys = sparse_of v in λ (w : Option Stand). option_map (changed_standing (λ f. f) (sys.carry e x)) w) in
    let carries = (let sys = sparse_of v in sys.place.carries e x) in
    IfOk-weaker c.copied_at.result _ _ (λ copied is. is
    ∙ sym (carried_not carries (change (at c.args.values.now c.args.variable)) (at c.args.values.now c.args.variable) not))
    c.copied_at.ensures

pub returns-in-None : goal.returns-in-None
returns-in-None c =
    let v = c.args.self.now in
    let e = c.args.edge in
    let x = c.args.cell in
    let same = c.slots.view_is ∙ ap (λ (u : SlotSystemOf). u.slots) c.self.view_is in
    let set = ap (λ (xs : List (List ℕ)). is_in (cells_at xs e) x) c.deref.ensures.value
    ∙ ap (λ (u : Slots). (let g = u.graph in is_in (cells_at g.carried.items e) x)) same in
    let so = sym set ∙ sym c.has_cell.ensures ∙ c.if-not-has_cell.false in
    let change = (let sys = sparse_of v in λ (w : Option Stand). option_map (changed_standing (λ f. f) (sys.carry e x)) w) in
    let carries = (let sys = sparse_of v in sys.place.carries e x) in
    sym (carried_so carries (change None) None so)
    ∙ ap (carried_along (sparse_of v) e x) c.in-None.ensures

pub returns-in_ok-carried_value-in-Some : goal.returns-in_ok-carried_value-in-Some
returns-in_ok-carried_value-in-Some c =
    let v = c.args.self.now in
    let e = c.args.edge in
    let x = c.args.cell in
    let same = c.slots.view_is ∙ ap (λ (u : SlotSystemOf). u.slots) c.self.view_is in
    let set = ap (λ (xs : List (List ℕ)). is_in (cells_at xs e) x) c.deref.ensures.value
    ∙ ap (λ (u : Slots). (let g = u.graph in is_in (cells_at g.carried.items e) x)) same in
    let so = sym set ∙ sym c.has_cell.ensures ∙ c.if-not-has_cell.false in
    let change = (let sys = sparse_of v in λ (w : Option Stand). option_map (changed_standing (λ f. f) (sys.carry e x)) w) in
    let carries = (let sys = sparse_of v in sys.place.carries e x) in
    ap Some c.in_ok-carried_value-in-Some.ensures ∙ ap change c.in-Some.ensures
    ∙ sym (carried_so carries (change (at c.args.values.now c.args.variable)) (at c.args.values.now c.args.variable) so)
