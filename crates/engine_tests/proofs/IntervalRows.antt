-- Interval rows, worked by hand: the definitions give these. Of `&`, `|` and `^` a row stands under guards of its own.
use Rattle.std.specs.Prelude.{◌≡◌, ℕ, ℤ, pos, neg_ℤ, List, [], ◌∷◌, map, Some, refl}
use Rattle.transfer_int.specs.interval_dom.Interval.{Span}
use Rattle.transfer_int.specs.interval_dom.Bitwise.{bit_length}
use Rattle.transfer_int.specs.interval_dom.Rows.{add_row, sub_row, mul_row, div_row, rem_row, shl_row, shr_row}
use Rattle.transfer_int.specs.interval_dom.Rows.{and_row, or_row, xor_row, least, greatest}

-- the least and the greatest value of C types of at most 64 bits, and a number below 0
abbrev low : ℤ
low = neg_ℤ (pos 9223372036854775808)

abbrev top : ℤ
top = pos 18446744073709551615

abbrev minus : ℕ → ℤ
minus n = neg_ℤ (pos n)

-- two operands and the row that they have
record Row : Type 0 where
  left : Span
  right : Span
  row : Span

-- from the first number to the second, from the third to the fourth, from the fifth to the sixth
abbrev has : ℤ → ℤ → ℤ → ℤ → ℤ → ℤ → Row
has a b c d e f = record {
  left = record { lo = a; hi = b };
  right = record { lo = c; hi = d };
  row = record { lo = e; hi = f };
}

abbrev sums : List Row
sums =
    has (pos 1) (pos 2) (pos 3) (pos 4) (pos 4) (pos 6) ∷
    has low top low top (minus 18446744073709551616) (pos 36893488147419103230) ∷ []

pub are_sums : map (λ r. add_row r.left r.right) sums ≡ map (λ r. r.row) sums
are_sums = refl

abbrev differences : List Row
differences =
    has (pos 1) (pos 2) (pos 3) (pos 5) (minus 4) (minus 1) ∷
    has (pos 0) (pos 0) low top (minus 18446744073709551615) (pos 9223372036854775808) ∷ []

pub are_differences : map (λ r. sub_row r.left r.right) differences ≡ map (λ r. r.row) differences
are_differences = refl

abbrev products : List Row
products =
    has (minus 3) (pos 2) (minus 5) (pos 7) (minus 21) (pos 15) ∷
    has (pos 0) (pos 0) (minus 5) (pos 5) (pos 0) (pos 0) ∷
    has (minus 4) (minus 2) (pos 3) (pos 5) (minus 20) (minus 6) ∷
    has low low low low (pos 85070591730234615865843651857942052864)
    (pos 85070591730234615865843651857942052864) ∷
    has (pos 9223372036854775808) top (pos 2) top (pos 18446744073709551616)
    (pos 340282366920938463426481119284349108225) ∷ []

pub are_products : map (λ r. mul_row r.left r.right) products ≡ map (λ r. r.row) products
unfolding least greatest
are_products = refl

abbrev quotients : List Row
quotients =
    has (minus 7) (pos 7) (pos 2) (pos 3) (minus 3) (pos 3) ∷
    has (pos 7) (pos 9) (minus 2) (minus 1) (minus 9) (minus 3) ∷
    has (minus 1) (minus 1) (pos 2) (pos 2) (pos 0) (pos 0) ∷
    has (pos 20) (pos 100) (pos 3) (pos 7) (pos 2) (pos 33) ∷
    has low low (minus 1) (minus 1) (pos 9223372036854775808) (pos 9223372036854775808) ∷ []

pub are_quotients : map (λ r. div_row r.left r.right) quotients ≡ map (λ r. r.row) quotients
unfolding least greatest
are_quotients = refl

abbrev remainders : List Row
remainders =
    has (pos 5) (pos 9) (pos 3) (pos 4) (pos 0) (pos 3) ∷
    has (minus 2) (pos 5) (minus 10) (minus 10) (minus 2) (pos 5) ∷
    has (minus 8) (minus 3) (pos 0) (pos 4) (minus 3) (pos 0) ∷
    has (pos 1) (pos 1) (minus 1) (pos 1) (pos 0) (pos 0) ∷
    has (minus 100) (pos 100) (minus 6) (pos 3) (minus 5) (pos 5) ∷ []

pub are_remainders : map (λ r. rem_row r.left r.right) remainders ≡ map (λ r. r.row) remainders
are_remainders = refl

abbrev left_shifts : List Row
left_shifts =
    has (pos 1) (pos 3) (pos 0) (pos 4) (pos 1) (pos 48) ∷
    has (pos 1) (pos 1) (pos 63) (pos 63) (pos 9223372036854775808) (pos 9223372036854775808) ∷
    has (pos 0) (pos 5) (pos 2) (pos 3) (pos 0) (pos 40) ∷ []

pub are_left_shifts : map (λ r. shl_row r.left r.right) left_shifts ≡ map (λ r. r.row) left_shifts
are_left_shifts = refl

abbrev right_shifts : List Row
right_shifts =
    has (minus 7) (pos 8) (pos 0) (pos 1) (minus 7) (pos 8) ∷
    has (minus 7) (minus 7) (pos 1) (pos 1) (minus 4) (minus 4) ∷
    has (minus 1) (minus 1) (pos 63) (pos 63) (minus 1) (minus 1) ∷
    has (pos 5) (pos 20) (pos 1) (pos 2) (pos 1) (pos 10) ∷ []

pub are_right_shifts : map (λ r. shr_row r.left r.right) right_shifts ≡ map (λ r. r.row) right_shifts
unfolding least greatest
are_right_shifts = refl

abbrev conjunctions : List Row
conjunctions =
    has (pos 0) (pos 10) (minus 5) (pos 3) (pos 0) (pos 10) ∷
    has (pos 0) (pos 10) (pos 0) (pos 6) (pos 0) (pos 6) ∷
    has (minus 5) (minus 1) (pos 3) (pos 9) (pos 0) (pos 9) ∷
    has (minus 5) (minus 5) (pos 12) (pos 12) (pos 8) (pos 8) ∷ []

pub are_conjunctions : map (λ r. and_row r.left r.right) conjunctions ≡ map (λ r. Some r.row) conjunctions
are_conjunctions = refl

abbrev disjunctions : List Row
disjunctions =
    has (pos 1) (pos 5) (pos 2) (pos 9) (pos 2) (pos 15) ∷
    has (pos 0) (pos 0) (pos 0) (pos 0) (pos 0) (pos 0) ∷
    has (pos 4) (pos 8) (pos 8) (pos 8) (pos 8) (pos 15) ∷
    has (minus 4) (minus 4) (pos 1) (pos 1) (minus 3) (minus 3) ∷ []

pub are_disjunctions : map (λ r. or_row r.left r.right) disjunctions ≡ map (λ r. Some r.row) disjunctions
unfolding bit_length
are_disjunctions = refl

abbrev exclusions : List Row
exclusions =
    has (pos 1) (pos 5) (pos 2) (pos 9) (pos 0) (pos 15) ∷
    has (pos 0) (pos 7) (pos 0) (pos 7) (pos 0) (pos 7) ∷
    has (minus 1) (minus 1) (pos 5) (pos 5) (minus 6) (minus 6) ∷ []

pub are_exclusions : map (λ r. xor_row r.left r.right) exclusions ≡ map (λ r. Some r.row) exclusions
unfolding bit_length
are_exclusions = refl
