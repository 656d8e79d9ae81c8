use Rattle.std.proofs.Common.{arith, ◌∙◌, ap, map}
use Rattle.std.proofs.lemmas.List.{map-append}
use Rattle.place_details.specs.reading.Seen.{sight_seen}
use Rattle.report_views.specs.reading.Seen.{spot_seen}
use Rattle.report_logs.proofs.ToldOnce.{item_at, next, sights_more}
use Rattle.report_logs.proofs.logs.sights_of.Goals as goal

pub loop-i-preserved : goal.loop-i-preserved
loop-i-preserved c =
    let same = c.requires in
    sights_more c.args.findings.now (map spot_seen c.args.spots.now) c.loop-i.i _ _ _ _ _ (sight_seen c.sight_of-sight.result)
    (next c.args.findings.now c.loop-i.i _ (omega arith))
    (item_at spot_seen c.args.spots.now c.loop-i.i _ (omega arith)) c.loop-i.invariant c.sight_of-sight.ensures
    (ap (map sight_seen) c.in_ok-push.ensures.items ∙ map-append sight_seen c.loop-i.sights.items _)
