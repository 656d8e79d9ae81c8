-- The law of pages.
use Rattle.std.specs.Prelude.{◌≡◌, ℕ, ◌+◌, Bool, true, false, List, [], ◌∷◌, length, Some, if◌then◌else◌}
use Rattle.page_pieces.specs.Pieces.{Piece, fixed}
use Rattle.page_pieces.specs.declared.markup.Markup.TheVariants.{Alarm}
use Rattle.source_marks.specs.Marks.{Origin}
use Rattle.report_views.specs.Spots.{Spot, spots_of}
use Rattle.report_views.specs.declared.spots.Finding.{Finding}
use Rattle.report_pages.specs.Pages.{Texts, page_pieces}

-- a piece begins the row of an alarm
abbrev pub is_row : Piece → Bool
is_row (fixed Alarm) = true
is_row _ = false

-- how many rows of alarms pieces have
abbrev pub rows_in : List Piece → ℕ
rows_in [] = 0
rows_in (piece ∷ pieces) = if is_row piece then rows_in pieces + 1 else rows_in pieces

-- a page has as many rows of alarms as there are alarms, whatever the texts beside the report say: those of the list, and
-- no other
abbrev pub AllListed : Type 0
AllListed =
    (texts : Texts) (origins : List Origin) (findings : List Finding) (spots : List Spot)
    → spots_of origins findings ≡ Some spots
    → rows_in (page_pieces texts origins findings spots) ≡ length findings
