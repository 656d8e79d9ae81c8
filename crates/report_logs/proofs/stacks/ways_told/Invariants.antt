use Rattle.std.proofs.Common.{◌≡◌, ◌++◌, drop, map}
use Rattle.report_reading.specs.reading.Told.{way_seen}
use Rattle.report_views.specs.reading.Seen.{spot_seen}
use Rattle.report_logs.specs.Sarif.{ways_told}
use Rattle.report_logs.specs.reading.Seen.{way_told_seen}
use Rattle.report_logs.proofs.stacks.ways_told.Given as goal

abbrev pub invariant-loop-i : goal.invariant-loop-i
invariant-loop-i l =
    ways_told (map way_seen l.ways) (map spot_seen l.sites) l.regions
    ≡ map way_told_seen l.told.items
    ++ ways_told (drop l.i (map way_seen l.ways)) (drop l.i (map spot_seen l.sites)) (drop l.i l.regions)
