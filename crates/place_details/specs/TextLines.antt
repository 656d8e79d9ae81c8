-- The lines of a text, counted from 1, each by the first 16,384 of its bytes.
use Rattle.std.specs.Prelude.{ℕ, ◌+◌, ◌-◌, ◌==◌, List, [], ◌∷◌, length, take, drop, min, slice_get, Option, Some, None}
use Rattle.std.specs.Prelude.{if◌then◌else◌}
use Rattle.tm_terms.specs.Lexis.{front}
use Rattle.tm_terms.specs.Splices.{is_in_line}
use Rattle.tm_terms.specs.declared.places.Place.{Place}

-- where the lines behind the first begin, where so many bytes stand before the text
abbrev pub starts_behind : ℕ → List ℕ → List ℕ
starts_behind count [] = []
starts_behind count (b ∷ text) =
    if b == 10 then (count + 1) ∷ starts_behind (count + 1) text else starts_behind (count + 1) text

-- where the lines of a text begin: at its front, and behind each of its bytes 10
abbrev pub starts_of : List ℕ → List ℕ
starts_of text = 0 ∷ starts_behind 0 text

-- where the line with a number begins, if there is one
abbrev pub start_of : List ℕ → ℕ → Option ℕ
start_of text number = if number == 0 then None else slice_get (starts_of text) (number - 1)

-- how many bytes of a line count
abbrev pub longest_line : ℕ
longest_line = 16384

-- what counts of the line that begins here
abbrev pub line_from : List ℕ → Option ℕ → List ℕ
line_from text None = []
line_from text (Some start) = front is_in_line (take longest_line (drop start text))

-- the line with a number: empty where there is none
abbrev pub line_of : List ℕ → ℕ → List ℕ
line_of text number = line_from text (start_of text number)

abbrev pub place_from : Option ℕ → ℕ → ℕ
place_from None col = 0
place_from (Some start) col = start + (col - 1)

-- how many bytes of the text stand before a place
abbrev pub offset_of : List ℕ → Place → ℕ
offset_of text place = min (place_from (start_of text place.line) place.col) (length text)
