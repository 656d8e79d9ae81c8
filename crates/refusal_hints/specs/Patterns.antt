-- Patterns of words. A word of a pattern stands for itself; one that begins with `@`, which begins no word of C, stands
-- for each word of a class.
use Rattle.std.specs.Prelude.{ℕ, ◌+◌, ◌-◌, ◌==◌, ◌||◌, ◌&&◌, Bool, true, false, not, List, [], ◌∷◌, length, drop}
use Rattle.std.specs.Prelude.{Option, Some, None, slice_index, nat_le, nat_lt, bytes_eq, codes, if◌then◌else◌}
use Rattle.std.specs.List.{list_all}
use Rattle.std.specs.Char.{is_ascii_digit}
use Rattle.tm_terms.specs.Lexis.{is_name_byte, is_name_start}
use Rattle.refusal_hints.specs.Classes.{class_of, is_among, is_keyword}

-- ## Forms of words

-- a name that is no keyword
abbrev pub is_name : List ℕ → Bool
is_name word = is_name_start (slice_index word 0) && not (is_keyword word)

-- a number
abbrev pub is_number : List ℕ → Bool
is_number word = is_ascii_digit (slice_index word 0)

-- `e` or `E`, which a decimal number has for an exponent alone (C99 6.4.4.2)
abbrev pub is_e : ℕ → Bool
is_e b = b == 101 || b == 69

-- a number with such a prefix: `0`, and this letter, small or great
abbrev pub is_prefixed : ℕ → List ℕ → Bool
is_prefixed small word =
    slice_index word 0 == 48 && (slice_index word 1 == small || slice_index word 1 == small - 32)

-- a decimal number with an exponent
abbrev pub has_exponent : List ℕ → Bool
has_exponent word = is_number word && not (is_prefixed 120 word) && not (list_all (λ b. not (is_e b)) word)

-- one byte of no name
abbrev pub is_sign : List ℕ → Bool
is_sign word = length word == 1 && not (is_name_byte (slice_index word 0))

-- a sign behind which an operand stands, or `return`
abbrev pub is_before_operand : List ℕ → Bool
is_before_operand word =
    (is_sign word && not (slice_index word 0 == 41 || slice_index word 0 == 93)) || bytes_eq word (codes "return")

-- a sign that goes on in an expression in brackets
abbrev pub is_inner_sign : List ℕ → Bool
is_inner_sign word = is_sign word && not (slice_index word 0 == 93)

-- a character constant, with both quotes
abbrev pub is_character : List ℕ → Bool
is_character word = slice_index word 0 == 39 && nat_lt 2 (length word) && slice_index word (length word - 1) == 39

-- a comment to the end of its line
abbrev pub is_line_comment : List ℕ → Bool
is_line_comment word = slice_index word 0 == 47 && slice_index word 1 == 47

-- how many times a word stands among others
abbrev pub count_of : List ℕ → List (List ℕ) → ℕ
count_of word [] = 0
count_of word (w ∷ words) = if bytes_eq w word then 1 + count_of word words else count_of word words

-- ## Patterns

module _ (context : List (List ℕ)) where
  -- the word is in the class, by its form, where it stands among these
  abbrev pub has_form : List ℕ → List ℕ → Bool
  has_form class word =
      if bytes_eq class (codes "@name") then is_name word
      else (if bytes_eq class (codes "@once") then is_name word && count_of word context == 1
      else (if bytes_eq class (codes "@number") then is_number word
      else (if bytes_eq class (codes "@constant") then is_number word || is_name word
      else (if bytes_eq class (codes "@exponent") then has_exponent word
      else (if bytes_eq class (codes "@binary") then is_prefixed 98 word
      else (if bytes_eq class (codes "@string") then slice_index word 0 == 34
      else (if bytes_eq class (codes "@character") then is_character word
      else (if bytes_eq class (codes "@comment") then is_line_comment word
      else (if bytes_eq class (codes "@directive") then slice_index word 0 == 35
      else (if bytes_eq class (codes "@backslash") then slice_index word 0 == 92
      else (if bytes_eq class (codes "@operand") then is_before_operand word
      else (if bytes_eq class (codes "@sign") then is_inner_sign word
      else (if bytes_eq class (codes "@none") then length word == 0
      else false)))))))))))))

  -- the word is in the class
  abbrev pub is_in : List ℕ → List ℕ → Bool
  is_in class word = listed (class_of class)
    where
      listed : Option (List (List ℕ)) → Bool
      listed (Some words) = is_among words word
      listed None = has_form class word

  -- a word of a pattern stands for this word
  abbrev pub is_like : List ℕ → List ℕ → Bool
  is_like item word = if slice_index item 0 == 64 then is_in item word else bytes_eq item word

  -- the first words are like those of the pattern
  abbrev pub fits : List (List ℕ) → List (List ℕ) → Bool
  fits [] words = true
  fits (item ∷ pattern) [] = false
  fits (item ∷ pattern) (word ∷ words) = is_like item word && fits pattern words

  -- the last words are like those of the pattern
  abbrev pub fits_last : List (List ℕ) → List (List ℕ) → Bool
  fits_last pattern words =
      nat_le (length pattern) (length words) && fits pattern (drop (length words - length pattern) words)
