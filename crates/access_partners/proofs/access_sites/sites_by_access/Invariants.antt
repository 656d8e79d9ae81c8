use Rattle.std.proofs.Common.{take}
use Rattle.access_partners.specs.reading.Accesses.{AreSitesBy}
use Rattle.access_partners.proofs.access_sites.sites_by_access.Given as goal

abbrev pub invariant-loop-site : goal.invariant-loop-site
invariant-loop-site l = AreSitesBy l.accesses (take l.site-index l.sites) l.lists.items
