use Rattle.std.proofs.Common.{◌≡◌, List, length, map}
use denote.Text.{Utf8}
use denote.Shadow.{shadow}
use Rattle.report_reading.specs.Ways.{AreTellable, Way, ways_text}
use Rattle.report_reading.specs.reading.Told.{AreUntold, way_seen}
use Rattle.report_reading.proofs.ways.ways_in.Given as goal

-- of the ways that the text tells, those that were found come first, and the lines of the others are left
abbrev pub invariant-loop-way : goal.invariant-loop-way
invariant-loop-way l =
    shadow (Utf8 l.rest)
    × ((list : List Way) → AreTellable list → l.text ≡ ways_text list
    → AreUntold list (map way_seen l.ways.items) l.rest)

abbrev pub decreases-loop-way : goal.decreases-loop-way
decreases-loop-way l = length l.rest
