use Rattle.std.proofs.Common.{◌≡◌, List, ◌++◌, map, drop}
use Rattle.std.specs.Prelude.{option_map}
use Rattle.source_marks.specs.reading.Seen.{origin_seen}
use Rattle.report_views.specs.Spots.{Spot, spots_of}
use Rattle.report_views.specs.reading.Seen.{spot_seen}
use Rattle.report_views.proofs.spots.spots_of.Given as goal

abbrev pub invariant-loop-finding : goal.invariant-loop-finding
invariant-loop-finding l =
    spots_of (map origin_seen l.origins) l.findings
    ≡ option_map (λ (rest : List Spot). map spot_seen l.spots.items ++ rest)
    (spots_of (map origin_seen l.origins) (drop l.finding-index l.findings))
