use Rattle.std.proofs.Common.{◌≡◌, map, take}
use Rattle.std.specs.List.{flat_map}
use Rattle.report_views.specs.Sentences.{classes}
use Rattle.report_views.specs.Summaries.{class_line}
use Rattle.report_views.specs.reading.Seen.{spot_seen}
use Rattle.report_views.proofs.summaries.summary.Given as goal

abbrev pub invariant-loop-class : goal.invariant-loop-class
invariant-loop-class l = l.text.items ≡ flat_map (class_line (map spot_seen l.spots)) (take l.class-index classes)
