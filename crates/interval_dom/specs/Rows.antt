-- The rows: the interval that holds an operator's results, from the intervals that hold its operands.
use Rattle.std.specs.Prelude.{◌-◌, ◌^◌, max, Bool, true, false, ◌&&◌, ℤ, pos, neg_ℤ, ◌+ℤ◌, ◌-ℤ◌, ◌*ℤ◌, ◌<ℤ◌, ◌⊎◌}
use Rattle.std.specs.Prelude.{unsigned_abs, int_le, int_div, Option, Some, None}
use Rattle.std.specs.Int.{int_min, int_max, int_shr}
use Rattle.interval_dom.specs.Interval.{Span}
use Rattle.interval_dom.specs.Bitwise.{int_and, int_or, int_xor, bit_length}

-- ---- sums, products, quotients, remainders (C99 6.5.5, 6.5.6)

abbrev pub add_row : Span → Span → Span
add_row a b = record { lo = a.lo +ℤ b.lo; hi = a.hi +ℤ b.hi }

abbrev pub sub_row : Span → Span → Span
sub_row a b = record { lo = a.lo -ℤ b.hi; hi = a.hi -ℤ b.lo }

unfoldable pub least : ℤ → ℤ → ℤ → ℤ → ℤ
least p q r s = int_min (int_min p q) (int_min r s)

unfoldable pub greatest : ℤ → ℤ → ℤ → ℤ → ℤ
greatest p q r s = int_max (int_max p q) (int_max r s)

-- from the least to the greatest of four numbers
abbrev pub spanned : ℤ → ℤ → ℤ → ℤ → Span
spanned p q r s = record { lo = least p q r s; hi = greatest p q r s }

-- from the least to the greatest of the results at the four pairs of ends
abbrev pub at_ends : (ℤ → ℤ → ℤ) → Span → Span → Span
at_ends op a b = spanned (op a.lo b.lo) (op a.lo b.hi) (op a.hi b.lo) (op a.hi b.hi)

abbrev pub mul_row : Span → Span → Span
mul_row = at_ends ◌*ℤ◌

-- all divisors are below 0, or all are above
abbrev pub IsOneSided : Span → Type 0
IsOneSided b = (b.hi <ℤ pos 0) ⊎ (pos 0 <ℤ b.lo)

-- quotients are truncated
abbrev pub div_row : Span → Span → Span
div_row = at_ends int_div

-- some divisor is not 0
abbrev pub HasDivisor : Span → Type 0
HasDivisor b = (b.lo <ℤ pos 0) ⊎ (pos 0 <ℤ b.hi)

-- the greatest absolute value of a remainder by a number of b, where b is not 0 alone
abbrev pub rem_limit : Span → ℤ
rem_limit b = pos (max (unsigned_abs b.lo) (unsigned_abs b.hi) - 1)

-- a remainder has its dividend's sign, and its size is neither greater than the dividend's nor than the limit
abbrev pub rem_row : Span → Span → Span
rem_row a b = record {
  lo = int_max (neg_ℤ (rem_limit b)) (int_min a.lo (pos 0));
  hi = int_min (rem_limit b) (int_max a.hi (pos 0));
}

-- ---- shifts (C99 6.5.7), by counts that are not negative

-- x * 2^n
abbrev pub shift_left : ℤ → ℤ → ℤ
shift_left x n = x *ℤ pos (2 ^ unsigned_abs n)

-- x / 2^n, rounded down
abbrev pub shift_right : ℤ → ℤ → ℤ
shift_right x n = int_shr x (unsigned_abs n)

abbrev pub shl_row : Span → Span → Span
shl_row a n = record { lo = shift_left a.lo n.lo; hi = shift_left a.hi n.hi }

abbrev pub shr_row : Span → Span → Span
shr_row = at_ends shift_right

-- ---- `&`, `|` and `^`: the intersection of the rows whose guards hold

abbrev pub is_not_negative : Span → Bool
is_not_negative a = int_le (pos 0) a.lo

abbrev pub has_one : Span → Bool
has_one a = int_le a.hi a.lo

-- the row, where its guard holds
abbrev pub row_if : Bool → Span → Option Span
row_if true r = Some r
row_if false r = None

-- the numbers that both hold
abbrev pub meet : Span → Span → Span
meet p q = record { lo = int_max p.lo q.lo; hi = int_min p.hi q.hi }

-- the intersection of the rows that are there
abbrev pub meet_rows : Option Span → Option Span → Option Span
meet_rows None q = q
meet_rows (Some p) None = Some p
meet_rows (Some p) (Some q) = Some (meet p q)

abbrev pub from_zero_to : ℤ → Span
from_zero_to hi = record { lo = pos 0; hi = hi }

abbrev pub only : ℤ → Span
only v = record { lo = v; hi = v }

-- the exact value, where each operand holds one number
abbrev pub exact_row : (ℤ → ℤ → ℤ) → Span → Span → Option Span
exact_row op a b = row_if (has_one a && has_one b) (only (op a.lo b.lo))

abbrev pub and_row : Span → Span → Option Span
and_row a b =
    meet_rows (row_if (is_not_negative a) (from_zero_to a.hi))
    (meet_rows (row_if (is_not_negative b) (from_zero_to b.hi)) (exact_row int_and a b))

-- 2^k - 1, for the least k with both greatest numbers below 2^k
abbrev pub ones_over : Span → Span → ℤ
ones_over a b = pos (2 ^ bit_length (unsigned_abs (int_max a.hi b.hi)) - 1)

abbrev pub or_row : Span → Span → Option Span
or_row a b =
    meet_rows (row_if (is_not_negative a && is_not_negative b) (record { lo = int_max a.lo b.lo; hi = ones_over a b }))
    (exact_row int_or a b)

abbrev pub xor_row : Span → Span → Option Span
xor_row a b =
    meet_rows (row_if (is_not_negative a && is_not_negative b) (from_zero_to (ones_over a b)))
    (exact_row int_xor a b)
