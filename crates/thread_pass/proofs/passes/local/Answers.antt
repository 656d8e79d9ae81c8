use Rattle.std.proofs.Common.{◌<◌, subst, sym, ap, ◌∙◌, arith, length, map, get_or, None, IfSome}
use Rattle.std.proofs.lemmas.List.{get_or_default}
use Rattle.std.specs.Arc.{arc_value}
use Rattle.program_systems.specs.body_systems.Systems.{body_of}
use Rattle.interfere_set.specs.Stores.{no_interference, joined_store}
use Rattle.table_covers.specs.Solutions.{at}
use Rattle.table_covers.specs.Passes.{added_below}
use Rattle.program_equality.specs.task_equations.Bodies.{copy_at}
use Rattle.program_equality.specs.task_equations.Equations.{link_of, added_along}
use Rattle.program_equality.specs.program_equations.Programs.{body_at}
use Rattle.program_equality.specs.program_equations.Systems.{FitsBody, FitsProgram, pass_of}
use Rattle.program_systems.specs.ReadPrograms.{program_of}
use Rattle.program_systems.specs.ProgramFacts.{program_with}
use Rattle.program_systems.proofs.Bodies.{is_program}
use Rattle.thread_pass.specs.Analyses.{IsLeastTable}
use Rattle.thread_pass.specs.Kept.{AreVisitsOf, first_of}
use Rattle.thread_pass.specs.Starts.{AreTaskValues}
use Rattle.thread_pass.specs.StoreUses.{AreUses}
use Rattle.thread_pass.proofs.SlotsInOrder.{in_slots, slots_at}
use Rattle.thread_pass.proofs.Uses.{adds_nothing, nothing_below}
use Rattle.thread_pass.proofs.TaskTables.{in_bodies, entry_fits, table_is, added_is, first_visits_are}
use Rattle.thread_pass.proofs.SlotStarts.{first_start}
use Rattle.thread_pass.proofs.passes.local.Goals as goal

pub body_over_store-body-requires-clause-number : goal.body_over_store-body-requires-clause-number
body_over_store-body-requires-clause-number c =
    let inside = c.analysis.inside in
    let p = program_with inside.program inside.facts in
    let is = is_program inside.program inside.facts c.analysis.invariant.analysable c.analysis.invariant.facts in
    in_bodies p is c.args.task (subst (λ v. c.args.task < v.tasks) (sym c.analysis.view_is) c.requires.task)

pub body_over_store-body-requires-clause-entry : goal.body_over_store-body-requires-clause-entry
body_over_store-body-requires-clause-entry c =
    let inside = c.analysis.inside in
    let p = program_with inside.program inside.facts in
    let is = is_program inside.program inside.facts c.analysis.invariant.analysable c.analysis.invariant.facts in
    let task : c.args.task < p.tasks = subst (λ v. c.args.task < v.tasks) (sym c.analysis.view_is) c.requires.task in
    let within : c.args.task < length inside.entries.items = omega (arith, task, c.analysis.invariant.count) in
    entry_fits p is c.args.task task _
    (c.as_ref-entry.ensures.value ∙ c.index.ensures
    ∙ get_or_default inside.entries.items c.args.task c.index.result.now None within
    ∙ c.analysis.invariant.entries c.args.task within)

pub index-requires-2 : goal.index-requires-2
index-requires-2 c =
    let inside = c.analysis.inside in
    let p = program_with inside.program inside.facts in
    let is = is_program inside.program inside.facts c.analysis.invariant.analysable c.analysis.invariant.facts in
    let within = in_slots p (arc_value inside.slots) c.analysis.invariant.slots c.args.task
    (in_bodies p is c.args.task (subst (λ v. c.args.task < v.tasks) (sym c.analysis.view_is) c.requires.task)) in
    let each = c.behind-analysis.view_is ∙ c.deref.ensures in
    omega (arith, within, ap length each, c.behind-analysis.inside.each.ok.0)

pub body_table-requires : goal.body_table-requires
body_table-requires c =
    let inside = c.analysis.inside in
    let p = program_with inside.program inside.facts in
    let is = is_program inside.program inside.facts c.analysis.invariant.analysable c.analysis.invariant.facts in
    slots_at p (arc_value inside.slots) c.analysis.invariant.slots c.args.task
    (in_bodies p is c.args.task (subst (λ v. c.args.task < v.tasks) (sym c.analysis.view_is) c.requires.task))
    c.index-2.result.now _ _
    (c.index-2.ensures ∙ ap (λ xs. get_or xs c.args.task c.index-2.result.now)
    (c.behind-analysis.view_is ∙ c.deref.ensures)) c.as_ref-slots.ensures.value c.body_over_store-body.ensures.body

pub returns-clause-table : goal.returns-clause-table
returns-clause-table c =
    let inside = c.analysis.inside in
    let p = program_with inside.program inside.facts in
    let is = is_program inside.program inside.facts c.analysis.invariant.analysable c.analysis.invariant.facts in
    let task : c.args.task < p.tasks = subst (λ v. c.args.task < v.tasks) (sym c.analysis.view_is) c.requires.task in
    let within : c.args.task < length inside.entries.items = omega (arith, task, c.analysis.invariant.count) in
    let over = c.body_over_store-body.result in
    let entry = c.body_over_store-body.ensures.entry ∙ c.as_ref-entry.ensures.value ∙ c.index.ensures
    ∙ get_or_default inside.entries.items c.args.task c.index.result.now None within
    ∙ c.analysis.invariant.entries c.args.task within in
    let fits = subst (λ v. FitsProgram (program_of v) c.args.store.now) (sym c.analysis.view_is) c.requires.fits in
    subst (λ v. IsLeastTable (program_of v) c.args.task c.args.store.now c.in_ok-table.field-0.table.items)
    c.analysis.view_is
    (table_is p is c.args.task task (body_of over) over.entry c.args.store.now over.store
    c.body_over_store-body.ensures.body entry c.body_over_store-body.ensures.store fits
    c.in_ok-table.field-0.table.items c.in_ok-table.ensures.nodes c.in_ok-table.ensures.least)

pub returns-clause-added : goal.returns-clause-added
returns-clause-added c =
    let inside = c.analysis.inside in
    let p = program_with inside.program inside.facts in
    let is = is_program inside.program inside.facts c.analysis.invariant.analysable c.analysis.invariant.facts in
    let task : c.args.task < p.tasks = subst (λ v. c.args.task < v.tasks) (sym c.analysis.view_is) c.requires.task in
    let within : c.args.task < length inside.entries.items = omega (arith, task, c.analysis.invariant.count) in
    let over = c.body_over_store-body.result in
    let entry = c.body_over_store-body.ensures.entry ∙ c.as_ref-entry.ensures.value ∙ c.index.ensures
    ∙ get_or_default inside.entries.items c.args.task c.index.result.now None within
    ∙ c.analysis.invariant.entries c.args.task within in
    let fits = subst (λ v. FitsProgram (program_of v) c.args.store.now) (sym c.analysis.view_is) c.requires.fits in
    let b = body_of over in
    added_is p is c.args.task task (body_of over) over.entry c.args.store.now over.store
    c.body_over_store-body.ensures.body entry c.body_over_store-body.ensures.store fits
    c.in_ok-table.field-0.table.items c.in_ok-table.ensures.nodes c.in_ok-table.ensures.least
    c.in_ok-added.added (c.in_ok-added.ensures ∙ ap (λ xs. added_below (map link_of b.copies) no_interference
    (λ k v. added_along b (copy_at b k) v) joined_store (length (map link_of b.copies)) (at xs)) c.deref-2.ensures.value)
    ∙ ap (λ v. pass_of (program_of v) c.args.task c.args.store.now) c.analysis.view_is

pub joined_contributions-requires-clause-nodes : goal.joined_contributions-requires-clause-nodes
joined_contributions-requires-clause-nodes c κs = ap length c.deref-2.ensures.value ∙ c.in_ok-table.ensures.nodes

pub joined_contributions-requires-clause-fits : goal.joined_contributions-requires-clause-fits
joined_contributions-requires-clause-fits c κs =
    let over = c.body_over_store-body.result in
    let least = c.in_ok-table.ensures.least in
    λ n lt. subst (λ xs. IfSome (at xs n) (FitsBody (body_of over) n)) (sym c.deref-2.ensures.value) (least.solves.fits n lt)

pub joined_contributions-requires-clause-adds : goal.joined_contributions-requires-clause-adds
joined_contributions-requires-clause-adds c κs = λ k lt quiet s.
    let inside = c.analysis.inside in
    let p = program_with inside.program inside.facts in
    let over = c.body_over_store-body.result in
    let uses = subst (λ v. AreUses (body_at (program_of v) c.args.task) c.in_ok-uses.uses.reads.items
    c.in_ok-uses.uses.adds.items) (sym c.analysis.view_is) c.in_ok-uses.ensures in
    adds_nothing (body_at p c.args.task) (body_of over) c.body_over_store-body.ensures.body c.deref-3.result.now
    (c.deref-3.ensures.value ∙ uses.adders) k quiet s

pub joined_contributions-requires-clause-least : goal.joined_contributions-requires-clause-least
joined_contributions-requires-clause-least c κs = nothing_below

pub returns-clause-visits : goal.returns-clause-visits
returns-clause-visits c =
    let inside = c.analysis.inside in
    let p = program_with inside.program inside.facts in
    let is = is_program inside.program inside.facts c.analysis.invariant.analysable c.analysis.invariant.facts in
    let task : c.args.task < p.tasks = subst (λ v. c.args.task < v.tasks) (sym c.analysis.view_is) c.requires.task in
    let within : c.args.task < length inside.entries.items = omega (arith, task, c.analysis.invariant.count) in
    let over = c.body_over_store-body.result in
    let entry = c.body_over_store-body.ensures.entry ∙ c.as_ref-entry.ensures.value ∙ c.index.ensures
    ∙ get_or_default inside.entries.items c.args.task c.index.result.now None within
    ∙ c.analysis.invariant.entries c.args.task within in
    let fits = subst (λ v. FitsProgram (program_of v) c.args.store.now) (sym c.analysis.view_is) c.requires.fits in
    subst (λ v. IfSome c.in_ok-table.field-0.visits (λ n. AreVisitsOf (program_of v) c.args.task c.args.store.now n
    (first_of (program_of v) c.args.task c.args.store.now) c.in_ok-table.field-0.table.items)) c.analysis.view_is
    (first_visits_are p is c.args.task task (body_of over) over.entry c.args.store.now over.store
    c.body_over_store-body.ensures.body entry c.body_over_store-body.ensures.store fits
    c.in_ok-table.field-0.visits c.in_ok-table.field-0.table.items c.in_ok-table.ensures.visits)

pub returns-clause-start : goal.returns-clause-start
returns-clause-start c =
    let inside = c.analysis.inside in
    let p = program_with inside.program inside.facts in
    let is = is_program inside.program inside.facts c.analysis.invariant.analysable c.analysis.invariant.facts in
    let task : c.args.task < p.tasks = subst (λ v. c.args.task < v.tasks) (sym c.analysis.view_is) c.requires.task in
    let within : c.args.task < length inside.entries.items = omega (arith, task, c.analysis.invariant.count) in
    let over = c.body_over_store-body.result in
    let entry = c.body_over_store-body.ensures.entry ∙ c.as_ref-entry.ensures.value ∙ c.index.ensures
    ∙ get_or_default inside.entries.items c.args.task c.index.result.now None within
    ∙ c.analysis.invariant.entries c.args.task within in
    let fits = subst (λ v. FitsProgram (program_of v) c.args.store.now) (sym c.analysis.view_is) c.requires.fits in
    let each = arc_value inside.slots in
    let in-each = in_slots p each c.analysis.invariant.slots c.args.task (in_bodies p is c.args.task task) in
    let own = c.as_ref-slots.ensures.value
    ∙ c.index-2.ensures
    ∙ ap (λ xs. get_or xs c.args.task c.index-2.result.now) (c.behind-analysis.view_is ∙ c.deref.ensures)
    ∙ get_or_default each c.args.task c.index-2.result.now None in-each in
    subst (λ v. IfSome c.in_ok-start.start (AreTaskValues (program_of v) c.args.task c.args.store.now))
    c.analysis.view_is
    (first_start p is c.args.task task (body_of over) over.entry c.args.store.now over.store
    c.body_over_store-body.ensures.body entry c.body_over_store-body.ensures.store fits each _ own
    c.in_ok-table.field-0.values c.in_ok-table.ensures.values c.in_ok-start.start c.in_ok-start.ensures)
