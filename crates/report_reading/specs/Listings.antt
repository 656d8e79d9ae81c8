-- The texts that list places: that of `waits`, and what `ranges` writes behind the bounds of objects.
use Rattle.std.specs.Prelude.{◌≡◌, ◌<◌, ◌^◌, ℕ, List, [], ◌∷◌, length}
use Rattle.tm_terms.specs.declared.places.Place.{Place}
use Rattle.solution_lines.specs.SolutionTexts.{waits_text, dead_text}
use Rattle.report_reading.specs.declared.listings.Listing.{Listing}
use Rattle.report_reading.specs.declared.listings.Listing.TheVariants.{Waits, Dead}

-- a line for each place, and then their number
abbrev pub listing_text : Listing → List Place → List ℕ
listing_text Waits places = waits_text places
listing_text Dead places = dead_text places

-- a place has numbers of 32 bits, as those of the analyser have
abbrev pub HasSmallNumbers : Place → Type 0
HasSmallNumbers place = (place.line < 2 ^ 32) × (place.col < 2 ^ 32)

abbrev pub HaveSmallNumbers : List Place → Type 0
HaveSmallNumbers [] = Unit {0}
HaveSmallNumbers (place ∷ places) = HasSmallNumbers place × HaveSmallNumbers places

-- the text lists no places
abbrev pub IsNoListing : Listing → List ℕ → Type 0
IsNoListing listing text =
    (places : List Place) → HaveSmallNumbers places → length places < 2 ^ 64 → text ≡ listing_text listing places → ⊥
