-- Quotients by powers of two, rounded down, and products with them.
use Rattle.std.proofs.Common.{ℕ, ◌*◌, ◌^◌, ◌≤◌, ℤ, pos, negsuc, ◌≤ℤ◌, arith}
use Rattle.std.specs.Prelude.{unsigned_abs}
use Rattle.std.specs.Int.{int_shr}
use Rattle.std.proofs.Math.Nat.{pow-le-pow_right, mul-le-mul}
use Rattle.std.proofs.lemmas.Nat.{pow_pos}
use Rattle.std.proofs.lemmas.Int.{ints}
use Rattle.interval_dom.specs.Laws.{AreCounts, AreNotNegative, Grows, Holds}
use Rattle.tm_numbers.specs.Operands.{AnyNumbers}
use Rattle.interval_dom.specs.Rows.{shift_left, shift_right, shl_row, shr_row}
use Rattle.interval_dom.proofs.Corners.{Between, rising, falling, in_spanned, spanned_within, holds_lo, holds_hi, ≤ℤ_trans}
use Rattle.interval_dom.proofs.Quotients.{div_mono, div_anti}

-- 2^n grows with n
powers : (m n : ℤ) → pos 0 ≤ℤ m → m ≤ℤ n → 2 ^ unsigned_abs m ≤ 2 ^ unsigned_abs n
powers m n h k = pow-le-pow_right (omega arith) (omega (arith, ints))

floor_rises : (a b : ℤ) (n : ℕ) → a ≤ℤ b → int_shr a n ≤ℤ int_shr b n
floor_rises (pos a) (pos b) n h = let k = div_mono a b (2 ^ n) (pow_pos n) (omega (arith, ints)) in omega (arith, ints)
floor_rises (pos a) (negsuc b) n h = absurd (omega (arith, ints))
floor_rises (negsuc a) (pos b) n h = omega (arith, ints)
floor_rises (negsuc a) (negsuc b) n h = let k = div_mono b a (2 ^ n) (pow_pos n) (omega (arith, ints)) in omega (arith, ints)

count_between : (x : ℤ) (l h n : ℕ) → 2 ^ l ≤ 2 ^ n → 2 ^ n ≤ 2 ^ h → Between (int_shr x l) (int_shr x h) (int_shr x n)
count_between (pos a) l h n p q =
    let j = div_anti a (2 ^ l) (2 ^ n) (pow_pos l) p in
    let k = div_anti a (2 ^ n) (2 ^ h) (pow_pos n) q in falling (omega (arith, ints)) (omega (arith, ints))
count_between (negsuc a) l h n p q =
    let j = div_anti a (2 ^ l) (2 ^ n) (pow_pos l) p in
    let k = div_anti a (2 ^ n) (2 ^ h) (pow_pos n) q in rising (omega (arith, ints)) (omega (arith, ints))

pub shr_holds : Holds AreCounts AnyNumbers shr_row shift_right
shr_holds a b x y guard takes h k = in_spanned _ _ _ _ (shift_right a.lo y) (shift_right a.hi y) _
    (count_between a.lo _ _ _ (powers b.lo y guard k.low) (powers y b.hi (≤ℤ_trans guard k.low) k.high))
    (count_between a.hi _ _ _ (powers b.lo y guard k.low) (powers y b.hi (≤ℤ_trans guard k.low) k.high))
    (rising (floor_rises a.lo x (unsigned_abs y) h.low) (floor_rises x a.hi (unsigned_abs y) h.high))

pub shr_grows : Grows AreCounts shr_row
shr_grows a b c d guard o p h k = spanned_within _ _ _ _ (shr_row c d)
    (shr_holds c d _ _ guard tt (holds_lo o h) (holds_lo p k))
    (shr_holds c d _ _ guard tt (holds_lo o h) (holds_hi p k))
    (shr_holds c d _ _ guard tt (holds_hi o h) (holds_lo p k))
    (shr_holds c d _ _ guard tt (holds_hi o h) (holds_hi p k))

-- both factors grow
pub shift_rises : (a b m n : ℤ) → pos 0 ≤ℤ a → pos 0 ≤ℤ m → a ≤ℤ b → m ≤ℤ n → shift_left a m ≤ℤ shift_left b n
shift_rises (pos a) (pos b) m n s t h k = let j : a * 2 ^ unsigned_abs m ≤ b * 2 ^ unsigned_abs n = mul-le-mul (omega (arith, ints)) (powers m n t k) in omega (arith, ints)
shift_rises (pos a) (negsuc b) m n s t h k = absurd (omega (arith, ints))
shift_rises (negsuc a) b m n s t h k = absurd (omega (arith, ints))

pub shl_holds : Holds AreNotNegative AnyNumbers shl_row shift_left
shl_holds a b x y guard takes h k = record {
  low = shift_rises a.lo x b.lo y guard.0 guard.1 h.low k.low;
  high = shift_rises x a.hi y b.hi (≤ℤ_trans guard.0 h.low) (≤ℤ_trans guard.1 k.low) h.high k.high;
}

pub shl_grows : Grows AreNotNegative shl_row
shl_grows a b c d guard o p h k = record {
  low = shift_rises c.lo a.lo d.lo b.lo guard.0 guard.1 h.low k.low;
  high = shift_rises a.hi c.hi b.hi d.hi (≤ℤ_trans guard.0 (≤ℤ_trans h.low o)) (≤ℤ_trans guard.1 (≤ℤ_trans k.low p)) h.high k.high;
}
