use Rattle.std.proofs.Common.{◌↔◌, ◌⊎◌}
use Rattle.std.specs.Prelude.{Contains}
use Rattle.program_reports.specs.post_recheck.table_covers.Solutions.{at}
use Rattle.program_reports.specs.post_recheck.body_systems.Systems.{body_of}
use Rattle.access_groups.specs.declared.site.Site.{Site as ASite}
use Rattle.access_groups.specs.reading.Sites.{IsSiteBelow}
use Rattle.access_groups.proofs.tasks.add_copies.Given as goal

abbrev pub invariant-loop-copy : goal.invariant-loop-copy
invariant-loop-copy l = (x : ASite) → Contains l.sites.items x
    ↔ (Contains l.initial.sites.items x ⊎ IsSiteBelow (body_of l.parts.body.now) (at l.table) l.copy x)
