use Rattle.std.proofs.Common.{sym, subst}
use Rattle.front_constraints.specs.Standings.{standings}
use Rattle.front_constraints.specs.Rules.{front_constraints}
use Rattle.least_assignments.specs.Constraints.{at}
use Rattle.body_fronts.specs.FrontForms.{fronts, cells}
use Rattle.body_slots.specs.Slots.{IsSlotSystem, sparse_of, AllowsSlots}
use Rattle.body_slots.specs.laws.Alike.{least_alike}
use Rattle.body_slots.specs.laws.Rising.{Fits}
use Rattle.body_slots.proofs.Reading.{some_of}
use Rattle.body_slots.proofs.solving.sparse_table.Goals as goal

pub new-system-requires : goal.new-system-requires
new-system-requires c = record {
  system = c.store-store.ensures.system;
  begins = sym c.in-Some.ensures;
  slots = c.requires;
}

pub tabled-requires-clause-least : goal.tabled-requires-clause-least
tabled-requires-clause-least c =
    let v = c.new-system.result in
    let least = some_of _ c.in_ok-values.field-0 c.in-Some-2.values c.in-Some-2.is c.in_ok-values.ensures.least in
    least_alike _ (standings fronts cells) (Fits v) (AllowsSlots v) (AllowsSlots v) (front_constraints (sparse_of v))
    (λ x y h. h) (λ x y h. h) (at c.in-Some-2.values.items) least

pub tabled-requires-clause-allowed : goal.tabled-requires-clause-allowed
tabled-requires-clause-allowed c =
    some_of _ c.in_ok-values.field-0 c.in-Some-2.values c.in-Some-2.is c.in_ok-values.ensures.allowed

pub tabled-requires-clause-system : goal.tabled-requires-clause-system
tabled-requires-clause-system c =
    subst IsSlotSystem (sym c.new-system.ensures) (record {
      system = c.store-store.ensures.system;
      begins = sym c.in-Some.ensures;
      slots = c.requires;
    })
