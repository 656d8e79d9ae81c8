use Rattle.std.proofs.Common.{◌↔◌, ◌⊎◌, take}
use Rattle.std.specs.Prelude.{Contains}
use Rattle.access_groups.specs.declared.site.Site.{Site as ASite}
use Rattle.access_groups.specs.reading.Sites.{IsTargetSite}
use Rattle.access_groups.proofs.copies.add_targets.Given as goal

abbrev pub invariant-loop-cell : goal.invariant-loop-cell
invariant-loop-cell l = (x : ASite) → Contains l.sites.items x
    ↔ (Contains l.initial.sites.items x ⊎ IsTargetSite l.way l.place l.edge (take l.cell-index l.targets) x)
