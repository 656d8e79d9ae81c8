use Rattle.std.proofs.Common.{arith}
use Rattle.thread_pass.specs.program_systems.ReadPrograms.{program_of}
use Rattle.program_reports.specs.post_recheck.Pairs.{lists_of}
use Rattle.program_solutions.proofs.Turning.{begun, ended}
use Rattle.program_solutions.proofs.turns.passes_in_turn.Goals as goal

pub passes-init : goal.passes-init
passes-init c =
    begun (program_of c.args.analysis.now) c.tasks-tasks.ensures.program c.in_ok-empty_tables.field-0.items
    c.in_ok-bottom.field-0 c.tasks-tasks.result c.in_ok-bottom.ensures c.in_ok-empty_tables.ensures.count
    c.in_ok-empty_tables.ensures.empty c.tasks-tasks.ensures.count c.in_ok-no_starts.field-0.items
    c.in_ok-no_starts.ensures.count c.in_ok-no_starts.ensures.none

pub returns : goal.returns
returns c =
    let p = program_of c.args.analysis.now in
    let turns = c.passes.turns in
    ended p c.tasks-tasks.ensures.program turns.store (lists_of turns.tables.items) turns.starts.items turns.next
    turns.quiet
    c.passes.invariant (omega (arith, c.passes-test.false, c.tasks-tasks.ensures.count))
