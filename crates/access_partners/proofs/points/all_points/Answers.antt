use Rattle.std.proofs.Common.{◌↔◌, ◌≤◌, ◌∙◌, ◌++◌, ◌∷◌, [], ap, length, subst, arith}
use Rattle.std.specs.Prelude.{Contains}
use Rattle.std.proofs.lemmas.List.{take_all}
use Rattle.access_groups.specs.reading.Sites.{no_site}
use Rattle.access_partners.specs.reading.Points.{point_of, IsPointOf}
use Rattle.access_partners.proofs.Lists.{listed_more}
use Rattle.access_partners.proofs.points.all_points.Goals as goal

pub loop-site-preserved : goal.loop-site-preserved
loop-site-preserved c =
    listed_more point_of c.args.sites.now c.loop-site.site-index no_site c.loop-site-test.true
    c.loop-site.points.items c.push.new.self.items
    (c.in_ok-push.ensures.items ∙ ap (λ q. c.loop-site.points.items ++ q ∷ []) c.point_of.ensures)
    c.loop-site.invariant

pub returns : goal.returns
returns c = λ q.
    let end : length c.args.sites.now ≤ c.loop-site.site-index = omega arith in
    subst (λ xs. Contains c.loop-site.points.items q ↔ IsPointOf xs q)
    (take_all c.loop-site.site-index c.args.sites.now end) (c.loop-site.invariant q)
