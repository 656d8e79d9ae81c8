use Rattle.std.proofs.Common.{◌<◌, ℕ, List, Option, length, sym, ap, subst, ◌∙◌}
use Rattle.table_covers.specs.Solutions.{at as table_at}
use Rattle.least_assignments.specs.Constraints.{at, AreFitting}
use Rattle.front_constraints.specs.Rules.{front_constraints}
use Rattle.body_slots.specs.Slots.{sparse_of, AllowsSlots}
use Rattle.body_slots.specs.Rows.{Stand}
use Rattle.body_slots.specs.laws.Chosen.{slots_solve}
use Rattle.body_slots.specs.laws.Rising.{Fits, Least}
use Rattle.body_slots.proofs.Reading.{some_of}
use Rattle.body_slots.proofs.Starting.{kept_values}
use Rattle.body_slots.proofs.solving.tabled.Goals as goal

pub table_of-requires-clause-variables : goal.table_of-requires-clause-variables
table_of-requires-clause-variables c = ap length c.deref.ensures.value ∙ c.requires.count

pub table_of-requires-clause-fits : goal.table_of-requires-clause-fits
table_of-requires-clause-fits c =
    let v = c.args.system.now in
    subst (λ (xs : List (Option Stand)). AreFitting (front_constraints (sparse_of v)) (Fits v) (at xs))
    (sym c.deref.ensures.value) (let closed = c.requires.least.closed in let round = closed.round in round.fits)

pub returns-clause-least : goal.returns-clause-least
returns-clause-least c =
    let v = c.args.system.now in
    let read = sym c.deref.ensures.value in
    let table = c.in-Some.table in
    let count = some_of _ c.in_ok-table.field-0 table c.in-Some.is c.in_ok-table.ensures.nodes in
    let expanded = some_of _ c.in_ok-table.field-0 table c.in-Some.is c.in_ok-table.ensures.expanded in
    let traced = some_of _ c.in_ok-table.field-0 table c.in-Some.is c.in_ok-table.ensures.traced in
    slots_solve v c.requires.system (at c.deref.result.now)
    (subst (λ (xs : List (Option Stand)). Least v (at xs)) read c.requires.least)
    (subst (λ (xs : List (Option Stand)). (k : ℕ) → k < (front_constraints (sparse_of v)).constraint_count
    → AllowsSlots v k (at xs)) read c.requires.allowed)
    (table_at table.items) expanded c.requires.begun (λ n lt. traced n (subst (λ m. n < m) (sym count) lt))

pub returns-clause-values : goal.returns-clause-values
returns-clause-values c =
    let v = c.args.system.now in
    kept_values v c.requires.system c.args.values.items c.requires.count c.requires.least
