use Rattle.std.proofs.Common.{◌↔◌, ◌≤◌, length, subst, arith}
use Rattle.std.specs.Prelude.{Contains}
use Rattle.std.proofs.lemmas.List.{take_all}
use Rattle.access_groups.specs.declared.site.Site.{Site}
use Rattle.access_groups.specs.reading.Sites.{no_site}
use Rattle.access_partners.specs.reading.Accesses.{IsCellOf}
use Rattle.access_partners.proofs.Lists.{listed_more}
use Rattle.access_partners.proofs.numbers.all_cells.Goals as goal

pub loop-site-preserved : goal.loop-site-preserved
loop-site-preserved c =
    listed_more (λ (x : Site). x.access.cell) c.args.sites.now c.loop-site.site-index no_site c.loop-site-test.true
    c.loop-site.cells.items c.push.new.self.items c.in_ok-push.ensures.items c.loop-site.invariant

pub returns : goal.returns
returns c = λ n.
    let end : length c.args.sites.now ≤ c.loop-site.site-index = omega arith in
    subst (λ xs. Contains c.loop-site.cells.items n ↔ IsCellOf xs n) (take_all c.loop-site.site-index c.args.sites.now end)
    (c.loop-site.invariant n)
