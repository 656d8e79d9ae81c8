use Rattle.program_reports.specs.post_recheck.Pairs.{lists_of}
use Rattle.program_reports.specs.post_recheck.program_systems.ProgramFacts.{program_with}
use Rattle.value_ranges.specs.reading.Notes.{AreWidened, IsInTables}
use Rattle.value_ranges.proofs.notes.note_tables.Given as goal

abbrev pub invariant-loop-number : goal.invariant-loop-number
invariant-loop-number l =
    AreWidened (λ o n. IsInTables l.cells (program_with l.program l.facts) (lists_of l.tables) l.number o n)
    l.initial.noted.items l.noted.items
