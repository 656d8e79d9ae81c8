-- Congruence rows, worked by hand: the definitions give these.
use Rattle.std.specs.Prelude.{◌≡◌, ℕ, ℤ, pos, neg_ℤ, List, [], ◌∷◌, map, refl}
use Rattle.tm_numbers.specs.Divisors.{gcd}
use Rattle.transfer_int.specs.congruence_dom.declared.classes.Cong.{Cong}
use Rattle.transfer_int.specs.congruence_dom.Rows.{add_row, sub_row, mul_row, rem_row, div_row, shl_row, shl_from_row}
use Rattle.transfer_int.specs.congruence_dom.Rows.{shr_row}

-- the least and the greatest value of C types of at most 64 bits, and a number below 0
abbrev low : ℤ
low = neg_ℤ (pos 9223372036854775808)

abbrev top : ℤ
top = pos 18446744073709551615

abbrev minus : ℕ → ℤ
minus n = neg_ℤ (pos n)

-- a residue and a modulus
abbrev class : ℤ → ℤ → Cong
class residue modulus = record { residue = residue; modulus = modulus }

-- two classes and the row that they have
record Row : Type 0 where
  left : Cong
  right : Cong
  row : Cong

abbrev has : ℤ → ℤ → ℤ → ℤ → ℤ → ℤ → Row
has a m b n r k = record { left = class a m; right = class b n; row = class r k }

-- a class, one divisor, and the row that they have
record Quotient : Type 0 where
  left : Cong
  divisor : ℤ
  row : Cong

abbrev by : ℤ → ℤ → ℤ → ℤ → ℤ → Quotient
by a m b r k = record { left = class a m; divisor = b; row = class r k }

-- a class, a count, and the row that they have
record Shift : Type 0 where
  left : Cong
  count : ℕ
  row : Cong

abbrev shifted : ℤ → ℤ → ℕ → ℤ → ℤ → Shift
shifted a m n r k = record { left = class a m; count = n; row = class r k }

abbrev sums : List Row
sums =
    has (pos 1) (pos 4) (pos 2) (pos 6) (pos 3) (pos 2) ∷
    has (pos 5) (pos 0) (pos 7) (pos 0) (pos 12) (pos 0) ∷
    has (pos 5) (pos 0) (pos 7) (pos 3) (pos 12) (pos 3) ∷ []

pub are_sums : map (λ r. add_row r.left r.right) sums ≡ map (λ r. r.row) sums
unfolding gcd
are_sums = refl

abbrev differences : List Row
differences =
    has (pos 1) (pos 4) (pos 2) (pos 6) (minus 1) (pos 2) ∷
    has (pos 0) (pos 9) (minus 3) (pos 12) (pos 3) (pos 3) ∷ []

pub are_differences : map (λ r. sub_row r.left r.right) differences ≡ map (λ r. r.row) differences
unfolding gcd
are_differences = refl

abbrev products : List Row
products =
    has (pos 1) (pos 4) (pos 2) (pos 6) (pos 2) (pos 2) ∷
    has (pos 0) (pos 4) (pos 0) (pos 6) (pos 0) (pos 24) ∷
    has (pos 3) (pos 0) (pos 1) (pos 5) (pos 3) (pos 15) ∷
    has (minus 3) (pos 0) (pos 1) (pos 5) (minus 3) (pos 15) ∷
    has (pos 3) (pos 0) (minus 7) (pos 0) (minus 21) (pos 0) ∷
    has (pos 2) (pos 4) (pos 2) (pos 4) (pos 4) (pos 8) ∷
    has (minus 2) (pos 6) (pos 3) (pos 9) (minus 6) (pos 18) ∷
    has low (pos 0) low (pos 0) (pos 85070591730234615865843651857942052864) (pos 0) ∷ []

pub are_products : map (λ r. mul_row r.left r.right) products ≡ map (λ r. r.row) products
unfolding gcd
are_products = refl

abbrev remainders : List Row
remainders =
    has (pos 1) (pos 4) (pos 6) (pos 0) (pos 1) (pos 2) ∷
    has (pos 7) (pos 12) (pos 4) (pos 8) (pos 7) (pos 4) ∷
    has (pos 5) (pos 0) (pos 3) (pos 0) (pos 5) (pos 3) ∷
    has (pos 5) (pos 10) (pos 0) (pos 15) (pos 5) (pos 5) ∷
    has (pos 5) (pos 10) (minus 4) (pos 0) (pos 5) (pos 2) ∷ []

pub are_remainders : map (λ r. rem_row r.left r.right) remainders ≡ map (λ r. r.row) remainders
unfolding gcd
are_remainders = refl

abbrev quotients : List Quotient
quotients =
    by (pos 12) (pos 8) (pos 4) (pos 3) (pos 2) ∷
    by (pos 12) (pos 8) (minus 4) (minus 3) (pos 2) ∷
    by (minus 15) (pos 0) (pos 5) (minus 3) (pos 0) ∷
    by (pos 0) (pos 6) (minus 3) (pos 0) (pos 2) ∷
    by low (pos 0) (minus 1) (pos 9223372036854775808) (pos 0) ∷ []

pub are_quotients : map (λ r. div_row r.left r.divisor) quotients ≡ map (λ r. r.row) quotients
are_quotients = refl

abbrev left_shifts : List Shift
left_shifts =
    shifted (pos 1) (pos 4) 0 (pos 1) (pos 4) ∷
    shifted (pos 1) (pos 4) 3 (pos 8) (pos 32) ∷
    shifted (minus 3) (pos 2) 2 (minus 12) (pos 8) ∷
    shifted (pos 5) (pos 0) 4 (pos 80) (pos 0) ∷
    shifted low top 63 (minus 85070591730234615865843651857942052864)
    (pos 170141183460469231722463931679029329920) ∷ []

pub are_left_shifts : map (λ r. shl_row r.left r.count) left_shifts ≡ map (λ r. r.row) left_shifts
are_left_shifts = refl

abbrev shifts_from : List Shift
shifts_from =
    shifted (pos 2) (pos 4) 0 (pos 0) (pos 2) ∷
    shifted (pos 6) (pos 4) 3 (pos 0) (pos 16) ∷
    shifted (pos 5) (pos 0) 1 (pos 0) (pos 10) ∷
    shifted (pos 0) (pos 12) 2 (pos 0) (pos 48) ∷
    shifted (pos 0) (pos 0) 5 (pos 0) (pos 0) ∷ []

pub are_shifts_from : map (λ r. shl_from_row r.left r.count) shifts_from ≡ map (λ r. r.row) shifts_from
unfolding gcd
are_shifts_from = refl

pub is_right_shift : shr_row (class (minus 12) (pos 8)) 2 ≡ class (minus 3) (pos 2)
is_right_shift = refl
