use Rattle.std.proofs.Common.{◌↔◌}
use Rattle.std.specs.Prelude.{Contains}
use Rattle.program_reports.specs.post_recheck.program_equations.Solutions.{tables_of}
use Rattle.program_reports.specs.post_recheck.program_systems.ProgramFacts.{program_with}
use Rattle.program_reports.specs.post_recheck.Pairs.{lists_of}
use Rattle.alarm_contexts.specs.declared.exits.Context.{Context as AContext}
use Rattle.alarm_contexts.specs.reading.Found.{IsContextUpTo}
use Rattle.alarm_contexts.proofs.bodies.contexts_in.Given as goal

abbrev pub invariant-loop-number : goal.invariant-loop-number
invariant-loop-number l = (x : AContext) → Contains l.contexts.items x
    ↔ IsContextUpTo (program_with l.program l.facts) l.store (tables_of (lists_of l.tables)) l.number x
