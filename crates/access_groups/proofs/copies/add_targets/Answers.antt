use Rattle.std.proofs.Common.{◌↔◌, ◌⊎◌, ◌≤◌, length, get_or, subst, arith}
use Rattle.std.specs.Prelude.{Contains}
use Rattle.std.proofs.lemmas.List.{take_all}
use Rattle.access_races.proofs.Joins.{joined, pushed}
use Rattle.access_groups.specs.declared.site.Site.{Site}
use Rattle.access_groups.specs.reading.Sites.{IsTargetSite}
use Rattle.access_groups.proofs.Targets.{targets_more}
use Rattle.access_groups.proofs.copies.add_targets.Goals as goal

pub loop-cell-preserved : goal.loop-cell-preserved
loop-cell-preserved c = λ x.
    let site : Site = record {
      access = record {
        cell = get_or c.args.targets.now c.loop-cell.cell-index 0;
        way = c.args.way;
        place = c.args.place;
      };
      edge = c.args.edge;
    } in
    joined (pushed c.loop-cell.sites.items c.push.new.self.items site c.in_ok-push.ensures.items x)
    (c.loop-cell.invariant x)
    (targets_more c.args.targets.now c.loop-cell.cell-index c.loop-cell-test.true c.args.way c.args.place c.args.edge x)

pub returns : goal.returns
returns c = λ x.
    let end : length c.args.targets.now ≤ c.loop-cell.cell-index = omega arith in
    subst (λ cells. Contains c.loop-cell.sites.items x
    ↔ (Contains c.args.sites.now.items x ⊎ IsTargetSite c.args.way c.args.place c.args.edge cells x))
    (take_all c.loop-cell.cell-index c.args.targets.now end) (c.loop-cell.invariant x)
