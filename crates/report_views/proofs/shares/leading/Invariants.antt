use Rattle.std.proofs.Common.{◌≡◌, ◌+◌, drop, map}
use Rattle.report_reading.specs.reading.Told.{way_seen}
use Rattle.report_views.specs.Shares.{leading}
use Rattle.report_views.proofs.shares.leading.Given as goal

-- each way so far is of the finding
abbrev pub invariant-loop-way : goal.invariant-loop-way
invariant-loop-way l =
    (l.count ≡ l.way-index)
    × (leading l.finding (map way_seen l.ways) ≡ l.count + leading l.finding (map way_seen (drop l.way-index l.ways)))
