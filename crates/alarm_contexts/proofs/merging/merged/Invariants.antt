use Rattle.std.proofs.Common.{take}
use Rattle.program_reports.specs.post_recheck.program_equations.Solutions.{tables_of}
use Rattle.program_reports.specs.post_recheck.program_systems.ProgramFacts.{program_with}
use Rattle.program_reports.specs.post_recheck.Pairs.{lists_of}
use Rattle.alarm_contexts.specs.reading.Operands.{operands_of, IsFlawed}
use Rattle.alarm_contexts.specs.reading.Merging.{AreMerged}
use Rattle.alarm_contexts.proofs.merging.merged.Given as goal

abbrev pub invariant-loop-context : goal.invariant-loop-context
invariant-loop-context l = AreMerged (operands_of (program_with l.program l.facts) (tables_of (lists_of l.tables)))
    (IsFlawed (program_with l.program l.facts) (tables_of (lists_of l.tables))) (take l.context-index l.context-items)
    l.merged.items
