use Rattle.std.proofs.Common.{◌↔◌}
use Rattle.std.specs.Prelude.{Contains}
use Rattle.program_reports.specs.post_recheck.program_equations.Solutions.{tables_of}
use Rattle.program_reports.specs.post_recheck.program_systems.ProgramFacts.{program_with}
use Rattle.program_reports.specs.post_recheck.Pairs.{lists_of}
use Rattle.access_groups.specs.declared.site.Site.{Site as ASite}
use Rattle.access_groups.specs.reading.Sites.{IsSiteUpTo}
use Rattle.access_groups.proofs.tasks.sites_in.Given as goal

abbrev pub invariant-loop-number : goal.invariant-loop-number
invariant-loop-number l = (x : ASite) → Contains l.sites.items x
    ↔ IsSiteUpTo (program_with l.program l.facts) (tables_of (lists_of l.tables)) l.number x
