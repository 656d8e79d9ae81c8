use Rattle.std.proofs.Common.{◌≤◌, length, subst, arith}
use Rattle.std.proofs.lemmas.List.{take_all}
use Rattle.access_partners.specs.reading.Accesses.{AreSitesBy}
use Rattle.access_partners.proofs.Search.{sites_none, sites_more}
use Rattle.access_partners.proofs.access_sites.sites_by_access.Goals as goal

pub loop-site-init : goal.loop-site-init
loop-site-init c =
    sites_none c.args.accesses.now c.requires c.args.sites.now c.in_ok-lists.lists.items c.in_ok-lists.ensures

pub loop-site-preserved : goal.loop-site-preserved
loop-site-preserved c =
    sites_more c.args.accesses.now c.requires c.args.sites.now c.loop-site.site-index c.loop-site-test.true
    c.loop-site.lists.items c.add_site.new.lists.items c.loop-site.invariant c.in_ok-add_site.ensures

pub returns : goal.returns
returns c =
    let end : length c.args.sites.now ≤ c.loop-site.site-index = omega arith in
    subst (λ xs. AreSitesBy c.args.accesses.now xs c.loop-site.lists.items)
    (take_all c.loop-site.site-index c.args.sites.now end) c.loop-site.invariant
