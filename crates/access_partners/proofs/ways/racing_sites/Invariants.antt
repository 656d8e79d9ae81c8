use Rattle.std.proofs.Common.{◌↔◌, take}
use Rattle.std.specs.Prelude.{Contains}
use Rattle.access_groups.specs.declared.site.Site.{Site as ASite}
use Rattle.access_partners.specs.reading.Accesses.{IsRacingSite}
use Rattle.access_partners.proofs.ways.racing_sites.Given as goal

abbrev pub invariant-loop-site : goal.invariant-loop-site
invariant-loop-site l = (x : ASite) → Contains l.racing.items x ↔ IsRacingSite l.ways (take l.site-index l.sites) x
