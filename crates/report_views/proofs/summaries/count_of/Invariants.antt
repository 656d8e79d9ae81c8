use Rattle.std.proofs.Common.{◌≡◌, map, take}
use Rattle.std.specs.Prelude.{bytes_eq, count_by}
use Rattle.report_views.specs.Sentences.{rule_text}
use Rattle.report_views.specs.Spots.{Spot}
use Rattle.report_views.specs.reading.Seen.{spot_seen}
use Rattle.report_views.proofs.summaries.count_of.Given as goal

abbrev pub invariant-loop-spot : goal.invariant-loop-spot
invariant-loop-spot l =
    l.count ≡ count_by (λ (spot : Spot). bytes_eq (rule_text spot.rule) l.word) (map spot_seen (take l.spot-index l.spots))
