use Rattle.std.proofs.Common.{◌≡◌, ◌<◌, ◌^◌, ℕ, List, length}
use denote.Text.{Utf8}
use denote.Shadow.{shadow}
use Rattle.report_reading.specs.declared.assumptions.Assumption.{Assumption}
use Rattle.report_reading.specs.Assumptions.{HavePlacesInRange, assumptions_text}
use Rattle.report_reading.specs.reading.Assumed.{AreUnread}
use Rattle.report_reading.proofs.assumptions.assumptions_in.Given as goal

-- of the assumptions that the text lists, those that were found come first, and the lines of the others are left
abbrev pub invariant-loop-assumption : goal.invariant-loop-assumption
invariant-loop-assumption l =
    shadow (Utf8 l.rest)
    × ((list : List Assumption) → HavePlacesInRange list → length list < 2 ^ 64 → l.text ≡ assumptions_text list
    → AreUnread list l.list.items l.rest)

abbrev pub decreases-loop-assumption : goal.decreases-loop-assumption
decreases-loop-assumption l = length l.rest
