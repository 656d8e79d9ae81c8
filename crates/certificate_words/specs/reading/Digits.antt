-- Digits of numbers.
use Rattle.std.specs.Prelude.{◌≡◌, ℕ, suc, ℤ, pos, negsuc, ◌==◌, ◌&&◌, not, nat_le, nat_lt, ◌<◌, ◌^◌, Bool, true, false}
use Rattle.std.specs.Prelude.{List, [], ◌∷◌, length, decimal}
use Rattle.std.specs.Char.{is_ascii_digit}
use Rattle.std.specs.List.{list_all}

-- one digit at least, twenty at most, and nothing else
abbrev pub has_digits_alone : List ℕ → Bool
has_digits_alone text = (nat_lt 0 (length text) && nat_le (length text) 20) && list_all is_ascii_digit text

-- the first byte is no zero, or the last
abbrev pub begins_plainly : List ℕ → Bool
begins_plainly [] = false
begins_plainly (b ∷ []) = true
begins_plainly (b ∷ c ∷ bs) = not (b == 48)

abbrev pub is_plain : List ℕ → Bool
is_plain text = has_digits_alone text && begins_plainly text

-- the text is that of the number, which is of a size below 2^64
abbrev pub IsNumber : List ℕ → ℤ → Type 0
IsNumber text (pos n) = (n < 2 ^ 64) × (text ≡ decimal n)
IsNumber text (negsuc n) = (suc n < 2 ^ 64) × (text ≡ 45 ∷ decimal (suc n))
