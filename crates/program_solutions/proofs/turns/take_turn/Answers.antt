use Rattle.std.proofs.Common.{subst, sym, ap, ◌∙◌, get_or}
use Rattle.thread_pass.specs.program_systems.ReadPrograms.{program_of}
use Rattle.program_reports.specs.post_recheck.Pairs.{lists_of}
use Rattle.program_solutions.specs.reading.Turns.{IsPassed}
use Rattle.program_solutions.proofs.Turning.{kept_at, quiet_written, raised_written, raised_less}
use Rattle.program_solutions.proofs.turns.take_turn.Goals as goal

pub passed-requires-clause-kept : goal.passed-requires-clause-kept
passed-requires-clause-kept c =
    let p = program_of c.args.analysis.now in
    let before = c.args.turns.now in
    let last = c.replace-last in
    kept_at p c.tasks.ensures.program before.tables.items before.starts.items before.store before.next before.quiet
    c.requires.underway c.requires.loud last.result
    (last.ensures.value ∙ c.index_mut.ensures.value
    ∙ ap (λ d. get_or before.tables.items before.next d) (sym last.ensures.value))

pub returns-in-Quiet-clause-underway : goal.returns-in-Quiet-clause-underway
returns-in-Quiet-clause-underway c = λ ok.
    let p = program_of c.args.analysis.now in
    let before = c.args.turns.now in
    let brings = subst (IsPassed p before.next before.store) c.in-Quiet.is c.in_ok-table.ensures in
    quiet_written p c.tasks.ensures.program before.tables.items before.starts.items before.store before.next
    before.quiet c.requires.underway c.requires.loud c.replace-last.new.dest c.in-Quiet.table c.take-start.new.self
    c.in-Quiet.start brings.1 c.turn_behind-turns.result c.tasks.result c.turn_behind-turns.ensures
    c.tasks.ensures.count brings.0

pub returns-in-Raised-clause-underway : goal.returns-in-Raised-clause-underway
returns-in-Raised-clause-underway c = λ ok.
    let p = program_of c.args.analysis.now in
    let before = c.args.turns.now in
    let brings = subst (IsPassed p before.next before.store) c.in-Raised.is c.in_ok-table.ensures in
    raised_written p c.tasks.ensures.program before.tables.items before.starts.items before.store before.next
    before.quiet c.requires.underway c.requires.loud c.replace-last.new.dest c.in-Raised.table c.take-start.new.self
    c.in-Raised.start brings.1 c.turn_behind-turns.result c.tasks.result c.turn_behind-turns.ensures
    c.tasks.ensures.count brings.0 c.in-Raised.after brings.2

pub returns-in-Raised-clause-smaller : goal.returns-in-Raised-clause-smaller
returns-in-Raised-clause-smaller c = λ ok.
    let p = program_of c.args.analysis.now in
    let before = c.args.turns.now in
    let brings = subst (IsPassed p before.next before.store) c.in-Raised.is c.in_ok-table.ensures in
    raised_less p c.tasks.ensures.program before.store (lists_of before.tables.items) before.starts.items before.next
    before.quiet c.requires.underway c.requires.loud c.in-Raised.after brings.2 brings.3
