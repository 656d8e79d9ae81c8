-- Truncated quotients by divisors of one sign lie between the quotients of the ends.
use Rattle.std.proofs.Common.{ℕ, zero, suc, ◌/◌, ◌<◌, ◌≤◌, ℤ, pos, negsuc, neg_ℤ, ◌≤ℤ◌, ◌<ℤ◌, ◌⊎◌, inl, inr, arith}
use Rattle.std.proofs.Math.Nat.{mul-le-mul_left, div-mul-le_self}
use Rattle.std.proofs.lemmas.Nat.{le-div}
use Rattle.std.proofs.lemmas.Int.{ints}
use Rattle.std.specs.Prelude.{int_div}
use Rattle.interval_dom.specs.Interval.{Span, InInterval}
use Rattle.interval_dom.specs.Laws.{AreDivisors, Grows, Holds}
use Rattle.tm_numbers.specs.Operands.{AnyNumbers}
use Rattle.interval_dom.specs.Rows.{div_row, IsOneSided}
use Rattle.interval_dom.proofs.Corners.{Between, rising, falling, in_spanned, spanned_within, holds_lo, holds_hi}

pub div_mono : (a b d : ℕ) → 0 < d → a ≤ b → a / d ≤ b / d
div_mono a b d p h = le-div (a / d) b d p (omega (arith, div-mul-le_self a d))

pub div_anti : (a d e : ℕ) → 0 < d → d ≤ e → a / e ≤ a / d
div_anti a d e p h = le-div (a / e) a d p (omega (arith, div-mul-le_self a e, mul-le-mul_left (a / e) h))

turned : (m n : ℕ) → m ≤ n → neg_ℤ (pos n) ≤ℤ neg_ℤ (pos m)
turned m n h = omega (arith, ints)

kept : (m n : ℕ) → m ≤ n → pos m ≤ℤ pos n
kept m n h = omega (arith, ints)

across : (m n : ℕ) → neg_ℤ (pos m) ≤ℤ pos n
across m n = omega (arith, ints)

from_pos : (m n : ℕ) → pos m ≤ℤ pos n → m ≤ n
from_pos m n h = omega (arith, ints)

from_negsuc : (m n : ℕ) → negsuc m ≤ℤ negsuc n → n ≤ m
from_negsuc m n h = omega (arith, ints)

-- the dividend moves from a to b, over a divisor above 0
pub over_natural : (a b : ℤ) (d : ℕ) → 0 < d → a ≤ℤ b → int_div a (pos d) ≤ℤ int_div b (pos d)
over_natural (pos a) (pos b) d p h = kept _ _ (div_mono a b d p (from_pos a b h))
over_natural (pos a) (negsuc b) d p h = absurd (omega (arith, ints))
over_natural (negsuc a) (pos b) d p h = across _ _
over_natural (negsuc a) (negsuc b) d p h = turned _ _ (div_mono (suc b) (suc a) d p (omega (arith, from_negsuc a b h)))

-- and over one below 0
pub over_negative : (a b : ℤ) (d : ℕ) → a ≤ℤ b → int_div b (negsuc d) ≤ℤ int_div a (negsuc d)
over_negative (pos a) (pos b) d h = turned _ _ (div_mono a b (suc d) (omega arith) (from_pos a b h))
over_negative (pos a) (negsuc b) d h = absurd (omega (arith, ints))
over_negative (negsuc a) (pos b) d h = across _ _
over_negative (negsuc a) (negsuc b) d h = kept _ _ (div_mono (suc b) (suc a) (suc d) (omega arith) (omega (arith, from_negsuc a b h)))

pub dividend_between : (l h x y : ℤ) → (y <ℤ pos 0) ⊎ (pos 0 <ℤ y) → l ≤ℤ x → x ≤ℤ h → Between (int_div l y) (int_div h y) (int_div x y)
dividend_between l h x (pos zero) (inl s) p q = absurd (omega (arith, ints))
dividend_between l h x (pos zero) (inr s) p q = absurd (omega (arith, ints))
dividend_between l h x (pos (suc d)) s p q = rising (over_natural l x (suc d) (omega arith) p) (over_natural x h (suc d) (omega arith) q)
dividend_between l h x (negsuc d) s p q = falling (over_negative x h d q) (over_negative l x d p)

-- the divisor moves from l to h, on one side of 0
above_zero : (x : ℤ) (l h y : ℕ) → 0 < l → l ≤ y → y ≤ h → Between (int_div x (pos l)) (int_div x (pos h)) (int_div x (pos y))
above_zero (pos a) l h y p q r = falling (kept _ _ (div_anti a y h (omega arith) r)) (kept _ _ (div_anti a l y p q))
above_zero (negsuc a) l h y p q r = rising (turned _ _ (div_anti (suc a) l y p q)) (turned _ _ (div_anti (suc a) y h (omega arith) r))

below_zero : (x : ℤ) (l h y : ℕ) → y ≤ l → h ≤ y → Between (int_div x (negsuc l)) (int_div x (negsuc h)) (int_div x (negsuc y))
below_zero (pos a) l h y p q = falling (turned _ _ (div_anti a (suc h) (suc y) (omega arith) (omega arith))) (turned _ _ (div_anti a (suc y) (suc l) (omega arith) (omega arith)))
below_zero (negsuc a) l h y p q = rising (kept _ _ (div_anti (suc a) (suc y) (suc l) (omega arith) (omega arith))) (kept _ _ (div_anti (suc a) (suc h) (suc y) (omega arith) (omega arith)))

pub divisor_between : (l h x y : ℤ) → (h <ℤ pos 0) ⊎ (pos 0 <ℤ l) → l ≤ℤ y → y ≤ℤ h → Between (int_div x l) (int_div x h) (int_div x y)
divisor_between (pos l) (pos h) x (pos y) (inl s) p q = absurd (omega (arith, ints))
divisor_between (pos l) (pos h) x (pos y) (inr s) p q = above_zero x l h y (omega (arith, ints)) (from_pos l y p) (from_pos y h q)
divisor_between (pos l) (pos h) x (negsuc y) s p q = absurd (omega (arith, ints))
divisor_between (pos l) (negsuc h) x y s p q = absurd (omega (arith, ints))
divisor_between (negsuc l) (negsuc h) x (negsuc y) s p q = below_zero x l h y (from_negsuc l y p) (from_negsuc y h q)
divisor_between (negsuc l) (negsuc h) x (pos y) s p q = absurd (omega (arith, ints))
divisor_between (negsuc l) (pos h) x y (inl s) p q = absurd (omega (arith, ints))
divisor_between (negsuc l) (pos h) x y (inr s) p q = absurd (omega (arith, ints))

-- what a divisor range of one side holds is on that side
side_of : (b : Span) (y : ℤ) → IsOneSided b → InInterval b y → (y <ℤ pos 0) ⊎ (pos 0 <ℤ y)
side_of b y (inl s) h = inl (omega (arith, ints))
side_of b y (inr s) h = inr (omega (arith, ints))

pub div_holds : Holds AreDivisors AnyNumbers div_row int_div
div_holds a b x y guard takes h k = in_spanned _ _ _ _ (int_div a.lo y) (int_div a.hi y) _
    (divisor_between b.lo b.hi a.lo y guard k.low k.high)
    (divisor_between b.lo b.hi a.hi y guard k.low k.high)
    (dividend_between a.lo a.hi x y (side_of b y guard k) h.low h.high)

pub div_grows : Grows AreDivisors div_row
div_grows a b c d guard o p h k = spanned_within _ _ _ _ (div_row c d)
    (div_holds c d _ _ guard tt (holds_lo o h) (holds_lo p k))
    (div_holds c d _ _ guard tt (holds_lo o h) (holds_hi p k))
    (div_holds c d _ _ guard tt (holds_hi o h) (holds_lo p k))
    (div_holds c d _ _ guard tt (holds_hi o h) (holds_hi p k))
