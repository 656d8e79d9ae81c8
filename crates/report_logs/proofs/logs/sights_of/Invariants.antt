use Rattle.std.proofs.Common.{◌≡◌, ◌++◌, drop, map}
use Rattle.place_details.specs.reading.Seen.{sight_seen}
use Rattle.report_views.specs.reading.Seen.{spot_seen}
use Rattle.report_logs.specs.Logs.{sights_of}
use Rattle.report_logs.proofs.logs.sights_of.Given as goal

abbrev pub invariant-loop-i : goal.invariant-loop-i
invariant-loop-i l =
    sights_of l.findings (map spot_seen l.spots)
    ≡ map sight_seen l.sights.items ++ sights_of (drop l.i l.findings) (drop l.i (map spot_seen l.spots))
