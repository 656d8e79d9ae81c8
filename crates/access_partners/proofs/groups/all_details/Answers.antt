use Rattle.std.proofs.Common.{◌≤◌, ◌∙◌, ◌++◌, ◌∷◌, [], ap, length, sym, subst, take, arith}
use Rattle.std.proofs.lemmas.List.{take_more, take_all}
use Rattle.access_partners.specs.Lists.{AreEach}
use Rattle.access_partners.specs.reading.Found.{AreFoundOf}
use Rattle.access_partners.proofs.Lists.{each_push}
use Rattle.access_partners.proofs.groups.all_details.Goals as goal

pub loop-at-preserved : goal.loop-at-preserved
loop-at-preserved c =
    let groups = c.args.groups.now in
    let n = c.loop-at.at in
    let g = c.index-groups-at.result in
    let R = AreFoundOf c.args.ways.now c.args.by_object.now in
    let fronts = take_more groups n g c.loop-at-test.true ∙ ap (λ x. take n groups ++ x ∷ []) (sym c.index-groups-at.is) in
    let here = each_push R (take n groups) c.loop-at.details.items g c.in_ok-told.told c.loop-at.invariant
    c.in_ok-told.ensures in
    subst (λ xs. AreEach R xs c.push.new.self.items) (sym fronts)
    (subst (λ ys. AreEach R (take n groups ++ g ∷ []) ys) (sym c.in_ok-push.ensures.items) here)

pub returns : goal.returns
returns c =
    let groups = c.args.groups.now in
    let end : length groups ≤ c.loop-at.at = omega arith in
    subst (λ xs. AreEach (AreFoundOf c.args.ways.now c.args.by_object.now) xs c.loop-at.details.items)
    (take_all c.loop-at.at groups end) c.loop-at.invariant
