use Rattle.std.proofs.Common.{◌≡◌, ◌≤◌, ◌↔◌, length, subst, arith}
use Rattle.std.specs.Prelude.{Contains}
use Rattle.std.proofs.lemmas.List.{take_all}
use Rattle.access_races.proofs.Joins.{grown, one_more}
use Rattle.access_groups.specs.declared.site.Site.{Site}
use Rattle.access_groups.specs.reading.Sites.{no_site}
use Rattle.access_partners.specs.reading.Accesses.{IsRacingAmong, IsRacingSite}
use Rattle.access_partners.proofs.ways.racing_sites.Goals as goal

pub loop-site-preserved : goal.loop-site-preserved
loop-site-preserved c = λ x.
    grown (c.in_ok-add_racing.ensures x) (c.loop-site.invariant x)
    (one_more (λ (y : Site). IsRacingAmong c.args.ways.now y × (x ≡ y)) c.args.sites.now c.loop-site.site-index no_site
    c.loop-site-test.true)

pub returns : goal.returns
returns c = λ x.
    let end : length c.args.sites.now ≤ c.loop-site.site-index = omega arith in
    subst (λ xs. Contains c.loop-site.racing.items x ↔ IsRacingSite c.args.ways.now xs x)
    (take_all c.loop-site.site-index c.args.sites.now end) (c.loop-site.invariant x)
