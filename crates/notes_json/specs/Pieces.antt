-- Pieces of JSON (RFC 8259). A number stands in decimal; std's `decimal n` is the number n as `{}` writes it.
use Rattle.std.specs.Prelude.{ℕ, zero, suc, Bool, cond, List, [], ◌++◌, map, codes, decimal, Option, Some, None}
use Rattle.std.specs.List.{join_with_byte}
use Rattle.tm_terms.specs.declared.places.Place.{Place}

-- ## Lists

-- a comma stands before each but the first
abbrev pub comma_before : ℕ → List ℕ
comma_before zero = []
comma_before (suc n) = codes ","

-- and where some are left out, before one behind others
abbrev pub comma_if : Bool → List ℕ
comma_if others = cond others (codes ",") []

module _ {A : Type 0} (text_of : A → List ℕ) where
  -- the text of what there may be
  abbrev pub or_nothing : Option A → List ℕ
  or_nothing None = []
  or_nothing (Some x) = text_of x

  -- the texts of a list, with a comma, which is byte 44, between each and the next one
  abbrev pub listed : List A → List ℕ
  listed xs = join_with_byte 44 (map text_of xs)

-- ## Members

-- a number behind bytes
abbrev pub number_text : List ℕ → ℕ → List ℕ
number_text before n = before ++ decimal n

-- one that there may be, with a comma behind it
abbrev pub option_text : List ℕ → Option ℕ → List ℕ
option_text before None = []
option_text before (Some n) = number_text before n ++ codes ","

-- a word behind bytes that end in a quotation mark
abbrev pub word_text : List ℕ → List ℕ → List ℕ
word_text before word = before ++ (word ++ codes "\"")

-- whether it is so
abbrev pub truth_text : Bool → List ℕ
truth_text is = cond is (codes "true") (codes "false")

-- {"col":COL,"line":LINE}
abbrev pub place_text : Place → List ℕ
place_text place =
    number_text (codes "{\"col\":") place.col ++ (number_text (codes ",\"line\":") place.line ++ codes "}")
