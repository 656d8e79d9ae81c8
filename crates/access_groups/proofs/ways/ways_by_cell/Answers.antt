use Rattle.std.proofs.Common.{◌≡◌, ◌≤◌, ◌↔◌, length, subst, arith}
use Rattle.std.specs.Prelude.{Contains}
use Rattle.std.proofs.lemmas.List.{take_all}
use Rattle.access_races.proofs.Joins.{grown, one_more}
use Rattle.access_races.specs.reading.Ways.{list_at}
use Rattle.access_groups.specs.declared.site.Site.{Site}
use Rattle.access_groups.specs.reading.Sites.{no_site, IsWayOfSite}
use Rattle.access_groups.proofs.ways.ways_by_cell.Goals as goal

pub loop-site-preserved : goal.loop-site-preserved
loop-site-preserved c = λ cell w.
    grown (c.in_ok-add_way.ensures cell w) (c.loop-site.invariant cell w)
    (one_more (λ (x : Site). (cell ≡ x.access.cell) × (w ≡ x.access.way)) c.args.sites.now c.loop-site.site-index no_site
    c.loop-site-test.true)

pub returns : goal.returns
returns c = λ cell w.
    let end : length c.args.sites.now ≤ c.loop-site.site-index = omega arith in
    subst (λ xs. Contains (list_at c.loop-site.ways.items cell) w ↔ IsWayOfSite xs cell w)
    (take_all c.loop-site.site-index c.args.sites.now end) (c.loop-site.invariant cell w)
