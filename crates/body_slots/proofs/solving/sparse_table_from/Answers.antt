use Rattle.std.proofs.Common.{sym, subst, List, Option}
use Rattle.front_constraints.specs.Standings.{standings}
use Rattle.front_constraints.specs.Rules.{front_constraints}
use Rattle.least_assignments.specs.Constraints.{at}
use Rattle.body_fronts.specs.FrontForms.{fronts, cells}
use Rattle.body_systems.specs.Systems.{body_of}
use Rattle.body_slots.specs.Slots.{SlotSystemOf, IsSlotSystem, sparse_of, AllowsSlots}
use Rattle.body_slots.specs.Rows.{Stand}
use Rattle.body_slots.specs.Starts.{IsStartOf}
use Rattle.body_slots.specs.laws.Alike.{closed_onward, above_alike}
use Rattle.body_slots.specs.laws.Rising.{Fits, Above}
use Rattle.body_slots.proofs.Reading.{some_of}
use Rattle.body_slots.proofs.Starting.{least_after}
use Rattle.body_slots.proofs.solving.sparse_table_from.Goals as goal

pub new-system-requires : goal.new-system-requires
new-system-requires c = record {
  system = c.store-store.ensures.system;
  begins = sym c.in-Some.ensures;
  slots = c.requires.slots;
}

pub tabled-requires-clause-system : goal.tabled-requires-clause-system
tabled-requires-clause-system c =
    subst IsSlotSystem (sym c.new-system.ensures) (record {
      system = c.store-store.ensures.system;
      begins = sym c.in-Some.ensures;
      slots = c.requires.slots;
    })

pub tabled-requires-clause-least : goal.tabled-requires-clause-least
tabled-requires-clause-least c =
    let v = c.new-system.result in
    let keeps = subst IsSlotSystem (sym c.new-system.ensures) (record {
      system = c.store-store.ensures.system;
      begins = sym c.in-Some.ensures;
      slots = c.requires.slots;
    }) in
    let begun = subst (λ (u : SlotSystemOf). (let w = u.system in
    IsStartOf (body_of w) w.entry w.store u.slots c.args.before)) (sym c.new-system.ensures) c.requires.before in
    let values = c.in-Some-2.values in
    let closed = some_of _ c.in_ok-values.field-0 values c.in-Some-2.is c.in_ok-values.ensures.closed in
    let above = some_of _ c.in_ok-values.field-0 values c.in-Some-2.is c.in_ok-values.ensures.least in
    least_after v keeps c.args.before begun (at values.items)
    (closed_onward _ (standings fronts cells) (Fits v) (AllowsSlots v) (AllowsSlots v) (front_constraints (sparse_of v))
    (λ x y h. h) (λ x y h. h) (at values.items) closed)
    (subst (λ (xs : List (Option Stand)). Above v (at xs) (at values.items)) c.before-2.view_is
    (above_alike _ (standings fronts cells) (Fits v) (AllowsSlots v) (AllowsSlots v) (front_constraints (sparse_of v))
    (λ x y h. h) (λ x y h. h) (at c.before-2.inside.values.items) (at values.items) above))
