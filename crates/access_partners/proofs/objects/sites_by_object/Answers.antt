use Rattle.std.proofs.Common.{◌≡◌, ◌≤◌, ◌↔◌, ◌∙◌, sym, ap, length, subst, arith}
use Rattle.std.specs.Prelude.{Contains}
use Rattle.std.proofs.lemmas.List.{take_all}
use Rattle.tm_laid.specs.Layouts.{laid_tree, abstract_at}
use Rattle.access_races.proofs.Joins.{grown, one_more}
use Rattle.access_races.specs.reading.Ways.{list_at}
use Rattle.access_groups.specs.declared.site.Site.{Site}
use Rattle.access_groups.specs.reading.Sites.{no_site}
use Rattle.access_partners.specs.reading.Accesses.{IsSiteTo}
use Rattle.access_partners.proofs.Lists.{under_same}
use Rattle.access_partners.proofs.objects.sites_by_object.Goals as goal

pub loop-site-preserved : goal.loop-site-preserved
loop-site-preserved c = record {
  small = c.in_ok-push_site.ensures.small;
  sites = λ o x. grown (c.in_ok-push_site.ensures.added o x) (c.loop-site.invariant.sites o x)
      (under_same (one_more (λ (y : Site). (let a = abstract_at (laid_tree c.args.laid.now) y.access.cell in
      o ≡ a.object) × (x ≡ y)) c.args.sites.now c.loop-site.site-index no_site c.loop-site-test.true)
      (λ e. e ∙ ap (λ a. a.object) c.abstract_at-object.ensures)
      (λ e. e ∙ sym (ap (λ a. a.object) c.abstract_at-object.ensures)));
}

pub returns : goal.returns
returns c = λ o x.
    let end : length c.args.sites.now ≤ c.loop-site.site-index = omega arith in
    subst (λ xs. Contains (list_at c.loop-site.lists.items o) x ↔ IsSiteTo xs (laid_tree c.args.laid.now) o x)
    (take_all c.loop-site.site-index c.args.sites.now end) (c.loop-site.invariant.sites o x)
