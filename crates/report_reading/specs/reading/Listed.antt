-- What the code finds of the places that a text lists before it compares.
use Rattle.std.specs.Prelude.{◌≡◌, ℕ, List, [], ◌∷◌, ◌++◌, length, codes, decimal, Option}
use Rattle.std.specs.Prelude.{MatchOption}
use Rattle.std.specs.Borrow.{Bor}
use Rattle.tm_terms.specs.declared.places.Place.{Place}
use Rattle.tm_terms.specs.Texts.{place_text}
use Rattle.report_reading.specs.declared.listings.Listing.{Listing}
use Rattle.report_reading.specs.declared.listings.Listing.TheVariants.{Waits, Dead}
use Rattle.report_reading.specs.Listings.{HaveSmallNumbers}

-- the word behind each place
abbrev pub word_text : Listing → List ℕ
word_text Waits = codes "WAIT"
word_text Dead = codes "DEAD"

-- the word before their number
abbrev pub count_word : Listing → List ℕ
count_word Waits = codes "waits"
count_word Dead = codes "dead"

-- a place in its line, and what follows
abbrev pub line_before : Listing → Place → List ℕ → List ℕ
line_before listing place rest = place_text place ++ (32 ∷ (word_text listing ++ (10 ∷ rest)))

-- the line with the number of places
abbrev pub count_line : Listing → ℕ → List ℕ
count_line listing count = count_word listing ++ (32 ∷ (decimal count ++ (10 ∷ [])))

-- the lines of places, and then that of a number
abbrev pub lines_before : Listing → List Place → ℕ → List ℕ
lines_before listing [] count = count_line listing count
lines_before listing (place ∷ places) count = line_before listing place (lines_before listing places count)

-- this place was found, and this is left
abbrev pub IsFound : Option (Place × Bor (List ℕ)) → Place → List ℕ → Type 0
IsFound found place rest = MatchOption found ⊥ (λ r. (r.0 ≡ place) × (r.1.now ≡ rest))

-- of these places, those that were found come first, and the lines of the others are left
pub record AreLeft (listing : Listing) (places found : List Place) (left : List ℕ) : Type 0 where
  pub more : List Place
  pub are : places ≡ found ++ more
  pub small : HaveSmallNumbers more
  pub lines : left ≡ lines_before listing more (length places)
