use Rattle.thread_pass.specs.program_systems.ReadPrograms.{program_of}
use Rattle.program_reports.specs.post_recheck.Pairs.{lists_of}
use Rattle.program_solutions.specs.reading.Turns.{IsUnderway, left}
use Rattle.program_solutions.proofs.turns.passes_in_turn.Given as goal

abbrev pub invariant-passes : goal.invariant-passes
invariant-passes l =
    IsUnderway (program_of l.analysis) l.turns.store (lists_of l.turns.tables.items) l.turns.starts.items l.turns.next
    l.turns.quiet

abbrev pub decreases-passes : goal.decreases-passes
decreases-passes l = left (program_of l.analysis) l.turns.store l.turns.quiet
