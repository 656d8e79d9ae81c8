-- Which line of which file each line of a preprocessed text comes from, by the line marks that stand in the text (C99
-- 6.10.4). A text is a list of bytes, and byte 0 stands for none past its end.
use Rattle.std.specs.Prelude.{◌≡◌, ◌<◌, ◌+◌, ◌-◌, ◌*◌, ◌==◌, ◌||◌, ℕ, Bool, true, false, List, [], ◌∷◌, length, take}
use Rattle.std.specs.Prelude.{drop}
use Rattle.std.specs.Prelude.{slice_get, slice_index, fold, nat_le, codes, Option, Some, None, option_map}
use Rattle.std.specs.Prelude.{option_and_then}
use Rattle.std.specs.Prelude.{if◌then◌else◌, bytes_eq}
use Rattle.std.specs.List.{prefix_len}
use Rattle.std.specs.Char.{is_ascii_digit}
use Rattle.tm_terms.specs.Lexis.{behind, front}
use Rattle.tm_terms.specs.Splices.{is_blank_in_line}

-- ## Lines

-- a byte before the first of some lines
abbrev pub begun_by : ℕ → List (List ℕ) → List (List ℕ)
begun_by b [] = (b ∷ []) ∷ []
begun_by b (line ∷ lines) = (b ∷ line) ∷ lines

-- the lines of a text, which its bytes 10 part: one more than it has of these
abbrev pub lines_of : List ℕ → List (List ℕ)
lines_of [] = [] ∷ []
lines_of (b ∷ text) = if b == 10 then [] ∷ lines_of text else begun_by b (lines_of text)

-- ## Marks

-- what stands behind `#` and blanks, in a line that begins with them
abbrev pub behind_hash : List ℕ → Option (List ℕ)
behind_hash line =
    let text = behind is_blank_in_line line in
    if slice_index text 0 == 35 then Some (behind is_blank_in_line (drop 1 text)) else None

-- the text begins with `line`
abbrev pub is_line_word : List ℕ → Bool
is_line_word text = bytes_eq (codes "line") (take 4 text)

-- behind `#`, a digit or `line` begins a mark
abbrev pub begins_mark : List ℕ → Bool
begins_mark text = is_ascii_digit (slice_index text 0) || is_line_word text

-- behind `#`, what a mark has from its number on
abbrev pub number_on : List ℕ → List ℕ
number_on text = if is_line_word text then behind is_blank_in_line (drop 4 text) else text

-- what a line has from its number on, if it is a mark
abbrev pub mark_text : List ℕ → Option (List ℕ)
mark_text line =
    option_and_then (λ text. if begins_mark text then Some (number_on text) else None) (behind_hash line)

-- the greatest number of a line
abbrev pub greatest_line : ℕ
greatest_line = 2147483647

-- the number that these digits write
abbrev pub decimal_value : List ℕ → ℕ
decimal_value digits = fold (λ value digit. value * 10 + (digit - 48)) 0 digits

-- at least one digit, with a value that is not too great
abbrev pub number_of : List ℕ → Option ℕ
number_of digits =
    if length digits == 0 then None
    else (if nat_le (decimal_value digits) greatest_line then Some (decimal_value digits) else None)

-- the number of the first quote, byte 34, that is not protected, where the text begins at byte k: a `\`, byte 92, that
-- is not protected itself protects the byte behind it
abbrev pub name_end : ℕ → Bool → List ℕ → Option ℕ
name_end k protected [] = None
name_end k true (b ∷ text) = name_end (k + 1) false text
name_end k false (b ∷ text) = if b == 34 then Some k else name_end (k + 1) (b == 92) text

-- a name, as it is spelled between a quote and the next that ends it; the text stands behind the first
abbrev pub quoted : List ℕ → Option (List ℕ)
quoted text = option_map (λ end. take end text) (name_end 0 false text)

-- what stands behind a mark's number: nothing, which names no file, or blanks, and then a name in quotes and anything
abbrev pub name_of : List ℕ → Option (Option (List ℕ))
name_of rest =
    let text = behind is_blank_in_line rest in
    if length text == 0 then Some None
    else (if prefix_len is_blank_in_line rest == 0 then None
    else (if slice_index text 0 == 34 then option_map Some (quoted (drop 1 text)) else None))

-- what a mark says of the line behind it: its number, and its file where it names one
pub record Mark : Type 0 where
  pub number : ℕ
  pub name : Option (List ℕ)

-- a mark, by what it has from its number on; none where that cannot be read
abbrev pub mark_of : List ℕ → Option Mark
mark_of text =
    option_and_then
    (λ n. option_map (λ m. record { number = n; name = m }) (name_of (behind is_ascii_digit text)))
    (number_of (front is_ascii_digit text))

-- ## Origins

-- where a line comes from: a file, by its name as it is spelled, and a line of it
pub record Origin : Type 0 where
  pub name : List ℕ
  pub line : ℕ

-- what a mark says of the line behind it, where it stands in this file
abbrev pub named : List ℕ → Option (List ℕ) → ℕ → Origin
named name None number = record { name = name; line = number }
named name (Some other) number = record { name = other; line = number }

-- the origin of the line behind one with this origin, where it is no mark or has this text from its number on
abbrev pub following : Origin → Option (List ℕ) → Option Origin
following origin None = Some (record { name = origin.name; line = origin.line + 1 })
following origin (Some text) = option_map (λ mark. named origin.name mark.name mark.number) (mark_of text)

-- the origin of the line behind a line; none where the line is a mark that cannot be read
abbrev pub after : Origin → List ℕ → Option Origin
after origin line = following origin (mark_text line)

-- the origins of lines, the first of which has this origin; none where one of them is a mark that cannot be read
abbrev pub origins_from : Origin → List (List ℕ) → Option (List Origin)
origins_from origin [] = Some []
origins_from origin (line ∷ lines) =
    option_and_then (λ next. option_map (λ rest. origin ∷ rest) (origins_from next lines)) (after origin line)

-- the origins of the lines of a text, the first of which is the first of the file of this name
abbrev pub origins_of : List ℕ → List ℕ → Option (List Origin)
origins_of name text = origins_from (record { name = name; line = 1 }) (lines_of text)

-- the line with this number, counted from 1, is a mark that cannot be read
pub record IsBrokenAt (lines : List (List ℕ)) (number : ℕ) : Type 0 where
  pub line : List ℕ
  pub text : List ℕ
  pub counted : 0 < number
  pub there : slice_get lines (number - 1) ≡ Some line
  pub mark : mark_text line ≡ Some text
  pub broken : mark_of text ≡ None
