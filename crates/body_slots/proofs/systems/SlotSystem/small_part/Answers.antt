use Rattle.std.proofs.Common.{◌≡◌, ◌∙◌, Option, Some, sym, ap, subst, get_or}
use Rattle.std.specs.Prelude.{false, MatchOption}
use Rattle.table_covers.specs.tm_lattice.Tables.{Table}
use Rattle.edge_actions.specs.transfer_rows.StateForms.{Temp, Cell, State}
use Rattle.least_assignments.specs.Constraints.{at}
use Rattle.front_constraints.specs.Standings.{front_in}
use Rattle.front_constraints.specs.Rules.{seen, is_ready}
use Rattle.body_systems.specs.Systems.{body_of}
use Rattle.body_slots.specs.Slots.{Slots, SlotSystemOf, IsSlotSystem, sparse_of}
use Rattle.body_slots.specs.reading.Small.{IsSeenOver, IsPart}
use Rattle.body_slots.specs.laws.Seen.{part_over}
use Rattle.body_slots.proofs.Reading.{link_from}
use Rattle.body_slots.proofs.systems.SlotSystem.small_part.Goals as goal

pub returns-in_ok-copied-in-Some-2 : goal.returns-in_ok-copied-in-Some-2
returns-in_ok-copied-in-Some-2 c =
    let v = c.args.self.now in
    let s = v.slots in
    let b = body_of v.system in
    let e = c.args.edge in
    let a = at c.args.values.now in
    let keeps = subst IsSlotSystem c.self.view_is c.self.invariant in
    let same = c.slots.view_is ∙ ap (λ (u : SlotSystemOf). u.slots) c.self.view_is in
    let link = c.index.ensures
    ∙ ap (λ (u : Slots). (let g = u.graph in get_or g.links.items e c.index.result.now)) same in
    let from-is = link_from b.copies s.graph.links.items c.index.result.now e link keeps.slots.links c.requires in
    let front = c.in-Some.front.now in
    let there = subst (λ n. front_in (a n) ≡ Some front) from-is (sym c.in-Some.ensures) in
    let before = c.in_ok-before-in-Some.before in
    let over = subst (λ (y : Option (Table Cell)). MatchOption y
    (is_ready (sparse_of v) e (seen (sparse_of v) e a) ≡ false) (IsSeenOver v e a before)) c.in-Some-2.is
    c.in_ok-with_seen-in-Some.ensures in
    let made = c.new.ensures
    ∙ ap (λ (f : Table Temp). record { temps = f; cells = c.in-Some-2.cells }) c.in_ok-copied-in-Some-2.ensures in
    subst (λ (t : State). IsPart v e a t) (sym made)
    (part_over v keeps e c.requires a front there before c.in-Some-2.cells over c.in_ok-before-in-Some.ensures)
