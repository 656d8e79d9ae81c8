-- Where a place begins and ends in its line of the file. Columns count units of UTF-16, from 1.
use Rattle.std.specs.Prelude.{ℕ, ◌+◌, ◌-◌, ◌==◌, ◌&&◌, ◌||◌, Bool, not, nat_le, nat_lt, List, take, drop}
use Rattle.std.specs.Prelude.{map, sum_by, slice_index, length, bytes_eq, codes, if◌then◌else◌}
use Rattle.std.specs.List.{prefix_len}
use Rattle.tm_terms.specs.Lexis.{is_blank_in_line, is_name_byte}
use Rattle.place_details.specs.declared.regions.Region.{Region}
use Rattle.place_details.specs.declared.regions.Region.TheVariants.{Whole, From, Within}

-- ## Columns

-- how many units of UTF-16 a byte of UTF-8 stands for: the first one of a character for all of it
abbrev pub units_in : ℕ → ℕ
units_in b = if nat_lt b 128 then 1 else (if nat_lt b 192 then 0 else (if nat_lt b 240 then 1 else 2))

-- the column behind so many bytes of a line
abbrev pub column_behind : ℕ → List ℕ → ℕ
column_behind count line = sum_by units_in (take count line) + 1

-- ## Tokens

-- `+`, `-`, `&`, `|`, `<` and `>` stand twice in a sign
abbrev pub is_doubled : ℕ → Bool
is_doubled b = b == 43 || (b == 45 || (b == 38 || (b == 124 || (b == 60 || b == 62))))

-- `=` stands behind these in a sign, and behind `*`, `/`, `%`, `^`, `=` and `!`
abbrev pub takes_equals : ℕ → Bool
takes_equals b = is_doubled b || (b == 42 || (b == 47 || (b == 37 || (b == 94 || (b == 61 || b == 33)))))

-- a sign of two bytes (C99 6.4.6)
abbrev pub is_pair : ℕ → ℕ → Bool
is_pair b c = (c == 61 && takes_equals b) || ((b == c && is_doubled b) || (b == 45 && c == 62))

-- how many bytes the sign has that begins a text
abbrev pub sign_length : List ℕ → ℕ
sign_length text =
    if bytes_eq (codes "<<=") (take 3 text) || bytes_eq (codes ">>=") (take 3 text) then 3
    else (if is_pair (slice_index text 0) (slice_index text 1) then 2
    else 1)

-- how many bytes the token has that begins a text: a word, or a sign; none at a blank or at the end
abbrev pub token_length : List ℕ → ℕ
token_length text =
    if nat_le (slice_index text 0) 32 then 0
    else (if is_name_byte (slice_index text 0) then prefix_len is_name_byte text
    else sign_length text)

-- ## Regions

-- a byte of a line as the preprocessor may write it: a blank for any
abbrev pub evened : ℕ → ℕ
evened b = if is_blank_in_line b then 32 else b

-- both lines have the same first bytes, so many, but for blanks
abbrev pub begin_alike : ℕ → List ℕ → List ℕ → Bool
begin_alike count line other = bytes_eq (map evened (take count line)) (map evened (take count other))

-- the region of a token of so many bytes behind so many others, in a line of the file and in that of the text: the whole
-- line where no token stands there, or the file has another text up to its end, as where a macro was used
abbrev pub region_behind : List ℕ → List ℕ → ℕ → ℕ → Region
region_behind line text_line before token =
    if not (token == 0) && begin_alike (before + token) line text_line
    then Within (column_behind before line) (column_behind (before + token) line)
    else Whole

-- the region at a column of a line of the text, counted in bytes, where the file has this line: the column alone where
-- the file is not at hand and has an empty one
abbrev pub region_at : List ℕ → List ℕ → ℕ → Region
region_at line text_line col =
    if nat_lt (length text_line) col then Whole
    else (if length line == 0 then From (column_behind (col - 1) text_line)
    else region_behind line text_line (col - 1) (token_length (drop (col - 1) text_line)))
