use Rattle.std.proofs.Common.{◌≡◌, ◌≤◌, ◌++◌, drop, length, map}
use Rattle.std.specs.Prelude.{sum}
use Rattle.report_reading.specs.reading.Told.{way_seen}
use Rattle.report_views.specs.Shares.{shares}
use Rattle.report_views.proofs.shares.counted.Given as goal

-- the findings so far have had their turn, and the ways that they have are told
abbrev pub invariant-loop-finding : goal.invariant-loop-finding
invariant-loop-finding l =
    (l.told ≡ sum l.counts.items) × (l.told ≤ length l.ways)
    × (shares l.findings (map way_seen l.ways)
    ≡ l.counts.items ++ shares (drop l.finding-index l.findings) (drop l.told (map way_seen l.ways)))
