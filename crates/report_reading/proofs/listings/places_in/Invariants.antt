use Rattle.std.proofs.Common.{◌≡◌, ◌<◌, ◌^◌, ℕ, List, length}
use denote.Text.{Utf8}
use denote.Shadow.{shadow}
use Rattle.tm_terms.specs.declared.places.Place.{Place}
use Rattle.report_reading.specs.Listings.{HaveSmallNumbers, listing_text}
use Rattle.report_reading.specs.reading.Listed.{AreLeft}
use Rattle.report_reading.proofs.listings.places_in.Given as goal

-- of the places that the text lists, those that were found come first, and the lines of the others are left
abbrev pub invariant-loop-place : goal.invariant-loop-place
invariant-loop-place l =
    shadow (Utf8 l.rest)
    × ((places : List Place) → HaveSmallNumbers places → length places < 2 ^ 64 → l.text ≡ listing_text l.listing places
    → AreLeft l.listing places l.places.items l.rest)

abbrev pub decreases-loop-place : goal.decreases-loop-place
decreases-loop-place l = length l.rest
