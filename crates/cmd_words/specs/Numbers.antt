-- The numbers among the words of a command line. A word is a list of bytes.
use Rattle.std.specs.Prelude.{ℕ, ◌&&◌, Bool, List, length, nat_le, nat_lt, Option, Some, None, if◌then◌else◌}
use Rattle.std.specs.Char.{is_ascii_digit}
use Rattle.std.specs.List.{list_all}
use Rattle.std.specs.Str.Parse.{digits_value}

-- the most digits of a number
abbrev pub most_digits : ℕ
most_digits = 10

-- the greatest number
abbrev pub greatest_number : ℕ
greatest_number = 2147483647

-- one digit at least, not too many, and nothing else
abbrev pub is_digits : List ℕ → Bool
is_digits text = (nat_lt 0 (length text) && nat_le (length text) most_digits) && list_all is_ascii_digit text

-- a value, unless it is too great
abbrev pub up_to_greatest : ℕ → Option ℕ
up_to_greatest value = if nat_le value greatest_number then Some value else None

-- the number that a word writes
abbrev pub number_of : List ℕ → Option ℕ
number_of text = if is_digits text then up_to_greatest (digits_value 10 text) else None
