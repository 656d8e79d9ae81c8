-- The names of files that line marks spell: between the quotes of a mark `\"` is a quote, `\\` a backslash, `\n` and
-- `\t` are the bytes 10 and 9, and `\` with three octal digits is the byte of their value. Any other byte, and any
-- other `\`, is itself.
use Rattle.std.specs.Prelude.{ℕ, zero, suc, ◌+◌, ◌-◌, ◌*◌, ◌==◌, ◌||◌, ◌&&◌, Bool, nat_le, List, [], ◌∷◌, drop}
use Rattle.std.specs.Prelude.{slice_index}
use Rattle.std.specs.Prelude.{Option, Some, None, if◌then◌else◌}

abbrev pub is_octal : ℕ → Bool
is_octal b = nat_le 48 b && nat_le b 55

-- the byte that three octal digits at the front spell
abbrev pub octal_of : List ℕ → Option ℕ
octal_of text =
    let high = slice_index text 0 in
    let middle = slice_index text 1 in
    let low = slice_index text 2 in
    if (is_octal high && nat_le high 51) && (is_octal middle && is_octal low)
    then Some ((high - 48) * 64 + (middle - 48) * 8 + (low - 48))
    else None

-- the byte that one byte behind `\` spells
abbrev pub letter_of : ℕ → Option ℕ
letter_of b =
    if b == 34 || b == 92 then Some b
    else (if b == 110 then Some 10
    else (if b == 116 then Some 9
    else None))

-- a byte that a name has, and by how many bytes it is spelled beyond the first
pub record Spelled : Type 0 where
  pub byte : ℕ
  pub more : ℕ

abbrev pub by_letter : Option ℕ → Spelled
by_letter (Some b) = record { byte = b; more = 1 }
by_letter None = record { byte = 92; more = 0 }

abbrev pub by_octal : Option ℕ → ℕ → Spelled
by_octal (Some b) first = record { byte = b; more = 3 }
by_octal None first = by_letter (letter_of first)

-- what a text spells first
abbrev pub spelled_first : List ℕ → Spelled
spelled_first text =
    if slice_index text 0 == 92 then by_octal (octal_of (drop 1 text)) (slice_index text 1)
    else record { byte = slice_index text 0; more = 0 }

-- the bytes that a text spells, where its first ones, so many, belong to what stands before
abbrev pub decoded_behind : ℕ → List ℕ → List ℕ
decoded_behind k [] = []
decoded_behind (suc k) (b ∷ text) = decoded_behind k text
decoded_behind zero (b ∷ text) =
    (spelled_first (b ∷ text)).byte ∷ decoded_behind ((spelled_first (b ∷ text)).more) text

-- the name that is spelled so
abbrev pub decoded : List ℕ → List ℕ
decoded text = decoded_behind 0 text
