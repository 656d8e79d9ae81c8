use Rattle.std.proofs.Common.{◌≡◌, ◌<◌, ◌≤◌, subst, ap, arith, ◌∙◌, length}
use Rattle.mutex_configs.specs.tm_laid.Layouts.{laid_tree}
use Rattle.entry_states.specs.program_equations.Readings.{read_layout}
use Rattle.entry_states.specs.program_equations.Programs.{HasSection}
use Rattle.entry_states.specs.program_equations.Entries.{later_state}
use Rattle.program_systems.specs.ProgramFacts.{program_with}
use Rattle.program_systems.proofs.TaskEntries.{if_ok, read_at, counted, begins_first, section_is, begins_later}
use Rattle.program_systems.proofs.beginnings.task_entries.Goals as goal

pub returns-then-tasks-bodies-clause-each : goal.returns-then-tasks-bodies-clause-each
returns-then-tasks-bodies-clause-each c =
    let program = c.args.program.now in
    let facts = c.args.facts.now in
    let bodies = ap length c.bodies.ensures in
    let none : length facts.bodies ≤ length program.laid.file.tasks.items =
    omega (arith, c.if-tasks-bodies.true, bodies, c.len-tasks.ensures, program.laid.file.tasks.ok.0) in
    if_ok c.first_entries.result
    (λ v each t lt. each t lt ∙ begins_first program facts c.requires.analysable c.requires.facts c.args.section.now t none)
    c.first_entries.ensures.each

pub ended_state-requires-clause-table : goal.ended_state-requires-clause-table
ended_state-requires-clause-table c =
    let program = c.args.program.now in
    let facts = c.args.facts.now in
    let bodies = ap length c.bodies.ensures in
    let tasks : c.len-tasks.result ≡ length program.laid.file.tasks.items =
    omega (arith, c.len-tasks.ensures, program.laid.file.tasks.ok.0) in
    let some : length program.laid.file.tasks.items < length facts.bodies =
    omega (arith, c.if-tasks-bodies.false, bodies, tasks) in
    let in_graphs : c.len-tasks.result < length program.graphs.graphs.items =
    omega (arith, some, tasks, c.requires.facts.count) in
    let in_configured : c.len-tasks.result < length program.configured.items =
    omega (arith, in_graphs, c.requires.analysable.count) in
    let has : HasSection (program_with program facts) =
    subst (λ n. length program.laid.file.tasks.items < n)
    (counted program facts c.requires.analysable c.requires.facts) some in
    c.requires.section has
    ∙ ap length (section_is program facts c.requires.analysable c.requires.facts c.index.result.now c.index-2.result.now
    some
    (read_at program.graphs.graphs.items c.len-tasks.result (length program.laid.file.tasks.items) c.index.result.now
    tasks in_graphs c.index.ensures)
    (read_at program.configured.items c.len-tasks.result (length program.laid.file.tasks.items) c.index-2.result.now
    tasks in_configured c.index-2.ensures)).1

pub returns-clause-each : goal.returns-clause-each
returns-clause-each c =
    let program = c.args.program.now in
    let facts = c.args.facts.now in
    let bodies = ap length c.bodies.ensures in
    let tasks : c.len-tasks.result ≡ length program.laid.file.tasks.items =
    omega (arith, c.len-tasks.ensures, program.laid.file.tasks.ok.0) in
    let some : length program.laid.file.tasks.items < length facts.bodies =
    omega (arith, c.if-tasks-bodies.false, bodies, tasks) in
    let in_graphs : c.len-tasks.result < length program.graphs.graphs.items =
    omega (arith, some, tasks, c.requires.facts.count) in
    let in_configured : c.len-tasks.result < length program.configured.items =
    omega (arith, in_graphs, c.requires.analysable.count) in
    if_ok c.later_entries.result
    (λ v each t lt. each t lt
    ∙ ap (later_state (read_layout (laid_tree program.laid)) t) (c.as_ref.ensures.value ∙ c.in_ok-ended.ensures)
    ∙ begins_later program facts c.requires.analysable c.requires.facts c.args.section.now t c.index.result.now
    c.index-2.result.now some
    (read_at program.graphs.graphs.items c.len-tasks.result (length program.laid.file.tasks.items) c.index.result.now
    tasks in_graphs c.index.ensures)
    (read_at program.configured.items c.len-tasks.result (length program.laid.file.tasks.items) c.index-2.result.now
    tasks in_configured c.index-2.ensures))
    c.later_entries.ensures.each
