use Rattle.std.proofs.Common.{◌≡◌, ◌++◌, map, take}
use Rattle.report_reading.specs.reading.Told.{way_seen}
use Rattle.report_views.specs.Shares.{site_of}
use Rattle.report_views.proofs.shares.push_sites.Given as goal

abbrev pub invariant-loop-way : goal.invariant-loop-way
invariant-loop-way l =
    l.findings.items ≡ l.initial.findings.items ++ map site_of (map way_seen (take l.way-index l.ways))
