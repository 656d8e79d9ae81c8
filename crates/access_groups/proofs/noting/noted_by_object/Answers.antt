use Rattle.std.proofs.Common.{◌≤◌, ◌↔◌, length, ap, subst, arith}
use Rattle.std.specs.Prelude.{Contains}
use Rattle.std.proofs.lemmas.List.{take_all}
use Rattle.tm_laid.specs.Layouts.{laid_tree}
use Rattle.access_races.specs.reading.Ways.{list_at}
use Rattle.access_races.proofs.Joins.{grown}
use Rattle.access_groups.specs.reading.Noted.{IsNotedIn}
use Rattle.access_groups.proofs.Noted.{noted_more}
use Rattle.access_groups.proofs.noting.noted_by_object.Goals as goal

pub loop-site-preserved : goal.loop-site-preserved
loop-site-preserved c = record {
  small = c.in_ok-push_noted.ensures.small;
  noted = λ o e. grown (c.in_ok-push_noted.ensures.added o e) (c.loop-site.invariant.noted o e)
      (noted_more c.args.ways.now (laid_tree c.args.laid.now) c.args.sites.now c.loop-site.site-index
      c.loop-site-test.true c.noted.result c.noted.ensures c.abstract_at-object.result.object
      (ap (λ a. a.object) c.abstract_at-object.ensures) o e);
}

pub returns-clause-exact : goal.returns-clause-exact
returns-clause-exact c = λ o e.
    let end : length c.args.sites.now ≤ c.loop-site.site-index = omega arith in
    subst (λ xs. Contains (list_at c.loop-site.lists.items o) e
    ↔ IsNotedIn c.args.ways.now (laid_tree c.args.laid.now) xs o e)
    (take_all c.loop-site.site-index c.args.sites.now end) (c.loop-site.invariant.noted o e)
