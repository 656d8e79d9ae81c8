use Rattle.std.proofs.Common.{arith, ◌∙◌, ap, map}
use Rattle.std.proofs.lemmas.List.{map-append}
use Rattle.report_reading.specs.reading.Told.{way_seen}
use Rattle.report_views.specs.reading.Seen.{spot_seen}
use Rattle.report_logs.specs.reading.Seen.{way_told_seen}
use Rattle.report_logs.proofs.ToldOnce.{item_at, next}
use Rattle.report_logs.proofs.WaysTold.{ways_more}
use Rattle.report_logs.proofs.stacks.ways_told.Goals as goal

pub loop-i-preserved : goal.loop-i-preserved
loop-i-preserved c =
    let sites = c.requires.sites in
    let regions = c.requires.regions in
    ways_more (map way_seen c.args.ways.now) (map spot_seen c.args.sites.now) c.args.regions.now c.loop-i.i _ _ _ _ _ _
    (way_told_seen c.way_told-way.result)
    (item_at way_seen c.args.ways.now c.loop-i.i _ (omega arith))
    (item_at spot_seen c.args.sites.now c.loop-i.i _ (omega arith))
    (next c.args.regions.now c.loop-i.i _ (omega arith)) c.loop-i.invariant c.way_told-way.ensures
    (ap (map way_told_seen) c.in_ok-push.ensures.items ∙ map-append way_told_seen c.loop-i.told.items _)
