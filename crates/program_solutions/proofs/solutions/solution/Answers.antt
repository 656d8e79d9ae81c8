use Rattle.std.proofs.Common.{sym, subst}
use Rattle.thread_pass.specs.program_systems.ReadPrograms.{program_of}
use Rattle.program_reports.specs.post_recheck.Pairs.{lists_of}
use Rattle.program_solutions.specs.Tables.{AreLeastTables}
use Rattle.program_solutions.proofs.Completing.{least_tables}
use Rattle.program_solutions.proofs.solutions.solution.Goals as goal

pub least_pair-requires : goal.least_pair-requires
least_pair-requires c =
    let p = program_of c.args.analysis.now in
    let all = lists_of c.in_ok-all.all.items in
    let turns = c.in_ok-store.field-0 in
    let over = c.in_ok-store.ensures in
    subst (λ s. AreLeastTables p (record { tables = all; store = s })) (sym c.in_ok-new.ensures.ok)
    (least_tables p over.program turns.store (lists_of turns.tables.items) all over c.in_ok-all.ensures)
