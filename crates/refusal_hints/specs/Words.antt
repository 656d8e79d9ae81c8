-- The words of a text of C: its names and numbers, its literals, and each other byte that is no blank. Comments and the
-- lines that begin with `#` are left out. Each text has words, whether it is a source of the language or not; of what a
-- source spells, tm_terms tells.
use Rattle.std.specs.Prelude.{ℕ, zero, suc, ◌+◌, ◌-◌, ◌==◌, ◌||◌, ◌&&◌, Bool, true, false, List, [], ◌∷◌, take, drop}
use Rattle.std.specs.Prelude.{slice_index, if◌then◌else◌}
use Rattle.std.specs.List.{prefix_len}
use Rattle.tm_terms.specs.Lexis.{is_name_byte}
use Rattle.tm_terms.specs.Splices.{is_blank, is_in_line}

-- a letter, a digit or `_`; and `@`, which begins a word of a pattern and stands in no token of C
abbrev pub is_word_byte : ℕ → Bool
is_word_byte b = is_name_byte b || b == 64

-- how many bytes a comment takes behind its `/*`: up to the first `*/`, or to the end of the text
abbrev pub comment_length : List ℕ → ℕ
comment_length [] = 0
comment_length (b ∷ text) = if b == 42 && slice_index text 0 == 47 then 2 else 1 + comment_length text

-- how many bytes a literal takes behind its quote: up to the next such quote that no `\`, byte 92, protects, or to the
-- end of the line
abbrev pub literal_length : ℕ → Bool → List ℕ → ℕ
literal_length quote protected [] = 0
literal_length quote true (b ∷ text) = 1 + literal_length quote false text
literal_length quote false (b ∷ text) =
    if b == quote then 1 else (if b == 10 then 0 else 1 + literal_length quote (b == 92) text)

-- `#` begins a text, or `//`
abbrev pub begins_line : List ℕ → Bool
begins_line text = slice_index text 0 == 35 || (slice_index text 0 == 47 && slice_index text 1 == 47)

-- `/*` begins a text
abbrev pub begins_comment : List ℕ → Bool
begins_comment text = slice_index text 0 == 47 && slice_index text 1 == 42

-- a quote of a string, byte 34, or of a character, byte 39
abbrev pub is_quote : ℕ → Bool
is_quote b = b == 34 || b == 39

-- How many bytes the piece takes that begins a text: a name or a number; the rest of a line; a comment; a literal; or
-- one byte.
abbrev pub piece_length : List ℕ → ℕ
piece_length text =
    if is_word_byte (slice_index text 0) then prefix_len is_word_byte text
    else (if begins_line text then prefix_len is_in_line text
    else (if begins_comment text then 2 + comment_length (drop 2 text)
    else (if is_quote (slice_index text 0) then 1 + literal_length (slice_index text 0) false (drop 1 text)
    else 1)))

-- the piece that begins a text is no word
abbrev pub is_gap : List ℕ → Bool
is_gap text = is_blank (slice_index text 0) || begins_line text || begins_comment text

-- the piece that begins a text, before other words, where it is a word
abbrev pub with_word : List ℕ → List (List ℕ) → List (List ℕ)
with_word text words = if is_gap text then words else take (piece_length text) text ∷ words

-- the words of a text, the first bytes of which, so many, belong to what stands before
abbrev pub words_behind : ℕ → List ℕ → List (List ℕ)
words_behind k [] = []
words_behind (suc k) (b ∷ text) = words_behind k text
words_behind zero (b ∷ text) = with_word (b ∷ text) (words_behind (piece_length (b ∷ text) - 1) text)

-- the words of a text
abbrev pub words_of : List ℕ → List (List ℕ)
words_of text = words_behind 0 text

-- the words of a text whose first piece is one, whatever it is
abbrev pub words_from : List ℕ → List (List ℕ)
words_from text = take (piece_length text) text ∷ words_of (drop (piece_length text) text)
