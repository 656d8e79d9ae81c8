use Rattle.std.proofs.Common.{◌≡◌, ◌<◌, ◌≤◌, ◌∙◌, ap, arith, length, Some}
use Rattle.program_systems.specs.body_systems.Systems.{body_of}
use Rattle.program_systems.specs.ProgramFacts.{program_with}
use Rattle.thread_pass.proofs.SectionTables.{in_bodies, empty_table, section_entry_fits, nothing_fits_program}
use Rattle.thread_pass.proofs.SectionTables.{section_table_is}
use Rattle.thread_pass.proofs.SlotsInOrder.{in_slots, slots_at}
use Rattle.thread_pass.proofs.analyses.section_table.Goals as goal

pub returns-then-tasks-len : goal.returns-then-tasks-len
returns-then-tasks-len c =
    let program = c.args.program.now in
    let none : length program.graphs.graphs.items ≤ length program.laid.file.tasks.items =
    omega (
      arith,
      c.if-tasks-len.true,
      c.len-tasks.ensures,
      c.len.ensures,
      program.laid.file.tasks.ok.0,
      program.graphs.graphs.ok.0,
    ) in
    empty_table program c.args.facts.now c.requires.analysable c.requires.facts none c.new.result.items
    c.new.ensures.items

pub body_over_store-body-requires-clause-number : goal.body_over_store-body-requires-clause-number
body_over_store-body-requires-clause-number c =
    let program = c.args.program.now in
    let same : c.len-tasks.result ≡ length program.laid.file.tasks.items =
    omega (arith, c.len-tasks.ensures, program.laid.file.tasks.ok.0) in
    let within : c.len-tasks.result < length program.graphs.graphs.items =
    omega (arith, c.if-tasks-len.false, c.len.ensures, program.graphs.graphs.ok.0) in
    in_bodies program c.args.facts.now c.requires.analysable c.requires.facts c.len-tasks.result same within

pub body_over_store-body-requires-clause-store : goal.body_over_store-body-requires-clause-store
body_over_store-body-requires-clause-store c =
    nothing_fits_program c.args.program.now c.args.facts.now c.requires.analysable c.requires.facts c.new-nothing.result
    c.new-nothing.ensures

pub body_over_store-body-requires-clause-entry : goal.body_over_store-body-requires-clause-entry
body_over_store-body-requires-clause-entry c =
    let program = c.args.program.now in
    let same : c.len-tasks.result ≡ length program.laid.file.tasks.items =
    omega (arith, c.len-tasks.ensures, program.laid.file.tasks.ok.0) in
    let within : c.len-tasks.result < length program.graphs.graphs.items =
    omega (arith, c.if-tasks-len.false, c.len.ensures, program.graphs.graphs.ok.0) in
    section_entry_fits program c.args.facts.now c.requires.analysable c.requires.facts c.len-tasks.result same within
    c.in_ok-entry.entry c.in_ok-entry.ensures

pub body_table-requires : goal.body_table-requires
body_table-requires c =
    let program = c.args.program.now in
    let same : c.len-tasks.result ≡ length program.laid.file.tasks.items =
    omega (arith, c.len-tasks.ensures, program.laid.file.tasks.ok.0) in
    let within : c.len-tasks.result < length program.graphs.graphs.items =
    omega (arith, c.if-tasks-len.false, c.len.ensures, program.graphs.graphs.ok.0) in
    slots_at (program_with program c.args.facts.now) c.args.all_slots.now c.requires.slots c.len-tasks.result
    (in_bodies program c.args.facts.now c.requires.analysable c.requires.facts c.len-tasks.result same within)
    c.index-all_slots-tasks.result _ _ c.index-all_slots-tasks.is c.as_ref-slots.ensures.value c.body_over_store-body.ensures.body

pub returns : goal.returns
returns c =
    let program = c.args.program.now in
    let same : c.len-tasks.result ≡ length program.laid.file.tasks.items =
    omega (arith, c.len-tasks.ensures, program.laid.file.tasks.ok.0) in
    let within : c.len-tasks.result < length program.graphs.graphs.items =
    omega (arith, c.if-tasks-len.false, c.len.ensures, program.graphs.graphs.ok.0) in
    let over = c.body_over_store-body.result in
    let made = c.in_ok-table.field-0 in
    section_table_is program c.args.facts.now c.requires.analysable c.requires.facts c.len-tasks.result (body_of over)
    over.entry over.store made.table.items same within c.body_over_store-body.ensures.body
    (c.body_over_store-body.ensures.entry ∙ ap Some c.in_ok-entry.ensures)
    (c.body_over_store-body.ensures.store ∙ c.new-nothing.ensures) c.in_ok-table.ensures.nodes
    c.in_ok-table.ensures.least
