use Rattle.std.proofs.Common.{◌↔◌, ◌⊎◌}
use Rattle.std.specs.Prelude.{Contains}
use Rattle.program_reports.specs.post_recheck.table_covers.Solutions.{at}
use Rattle.program_reports.specs.post_recheck.body_systems.Systems.{body_of}
use Rattle.alarm_contexts.specs.declared.exits.Context.{Context as AContext}
use Rattle.alarm_contexts.specs.reading.Found.{IsContextBelow}
use Rattle.alarm_contexts.proofs.bodies.add_copies.Given as goal

abbrev pub invariant-loop-copy : goal.invariant-loop-copy
invariant-loop-copy l = (x : AContext) → Contains l.contexts.items x ↔ (Contains l.initial.contexts.items x
    ⊎ IsContextBelow (body_of l.parts.body.now) l.parts.body.now.store (at l.table) l.copy x)
