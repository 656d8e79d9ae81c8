-- A remainder has its dividend's sign, and is smaller than its divisor.
use Rattle.std.proofs.Common.{ℕ, zero, suc, ◌-◌, ◌<◌, ◌≤◌, max, ℤ, pos, negsuc, neg_ℤ, ◌≤ℤ◌, arith, refl, ◌≢◌}
use Rattle.std.specs.Prelude.{unsigned_abs, int_rem}
use Rattle.std.specs.Int.{int_min, int_max}
use Rattle.std.proofs.Math.Nat.{mod-le}
use Rattle.std.proofs.lemmas.Int.{ints, clamps, rem_below}
use Rattle.interval_dom.specs.Interval.{Span, IsOrdered, IsWithin}
use Rattle.interval_dom.specs.Laws.{Always, Grows, Holds}
use Rattle.tm_numbers.specs.Operands.{NotByZero}
use Rattle.interval_dom.specs.Rows.{rem_limit, rem_row}
use Rattle.interval_dom.proofs.Corners.{≤ℤ_trans, min_l, min_r, max_l, max_r, min_in, max_in}

-- the remainder lies between its dividend and 0
pub rem_toward_zero : (x y : ℤ) → (int_min x (pos 0) ≤ℤ int_rem x y) × (int_rem x y ≤ℤ int_max x (pos 0))
rem_toward_zero (pos a) y = let h = mod-le a (unsigned_abs y) in (omega (arith, ints, clamps), omega (arith, ints, clamps))
rem_toward_zero (negsuc a) y = let h = mod-le (suc a) (unsigned_abs y) in (omega (arith, ints, clamps), omega (arith, ints, clamps))

size_above : (y : ℤ) → y ≢ pos 0 → 0 < unsigned_abs y
size_above (pos zero) n = absurd (n refl)
size_above (pos (suc k)) n = omega arith
size_above (negsuc k) n = omega arith

-- the size of a number is at most that of the farther end
size_within : (l h y : ℤ) → l ≤ℤ y → y ≤ℤ h → unsigned_abs y ≤ max (unsigned_abs l) (unsigned_abs h)
size_within l h y p q = omega (arith, ints)

limited : (z : ℤ) (m n : ℕ) → unsigned_abs z < m → m ≤ n → (neg_ℤ (pos (n - 1)) ≤ℤ z) × (z ≤ℤ pos (n - 1))
limited z m n h k = (omega (arith, ints), omega (arith, ints))

pub rem_holds : Holds Always NotByZero rem_row int_rem
rem_holds a b x y guard takes h k =
    let sign = rem_toward_zero x y in
    let size = limited (int_rem x y) _ _ (rem_below x y (size_above y takes)) (size_within b.lo b.hi y k.low k.high) in
    record {
      low = max_in _ _ _ size.0 (≤ℤ_trans (min_in _ _ _ (≤ℤ_trans (min_l a.lo (pos 0)) h.low) (min_r a.lo (pos 0))) sign.0);
      high = min_in _ _ _ size.1 (≤ℤ_trans sign.1 (max_in _ _ _ (≤ℤ_trans h.high (max_l a.hi (pos 0))) (max_r a.hi (pos 0))));
    }

one_less : (m n : ℕ) → m ≤ n → pos (m - 1) ≤ℤ pos (n - 1)
one_less m n h = omega (arith, ints)

opposite : (p q : ℤ) → p ≤ℤ q → neg_ℤ q ≤ℤ neg_ℤ p
opposite p q h = omega (arith, ints)

both_below : (m n t : ℕ) → m ≤ t → n ≤ t → max m n ≤ t
both_below m n t h k = omega arith

limit_grows : (b d : Span) → IsOrdered b → IsWithin b d → rem_limit b ≤ℤ rem_limit d
limit_grows b d o w = one_less _ _ (both_below _ _ _
    (size_within d.lo d.hi b.lo w.low (≤ℤ_trans o w.high))
    (size_within d.lo d.hi b.hi (≤ℤ_trans w.low o) w.high))

pub rem_grows : Grows Always rem_row
rem_grows a b c d guard o p h k =
    let limit = limit_grows b d p k in
    record {
      low = max_in _ _ _
          (≤ℤ_trans (opposite _ _ limit) (max_l (neg_ℤ (rem_limit b)) (int_min a.lo (pos 0))))
          (≤ℤ_trans (min_in _ _ _ (≤ℤ_trans (min_l c.lo (pos 0)) h.low) (min_r c.lo (pos 0))) (max_r (neg_ℤ (rem_limit b)) (int_min a.lo (pos 0))));
      high = min_in _ _ _
          (≤ℤ_trans (min_l (rem_limit b) (int_max a.hi (pos 0))) limit)
          (≤ℤ_trans (min_r (rem_limit b) (int_max a.hi (pos 0))) (max_in _ _ _ (≤ℤ_trans h.high (max_l c.hi (pos 0))) (max_r c.hi (pos 0))));
    }

-- a row of remainders is not empty: it holds 0
pub around_zero : (l a h : ℤ) → pos 0 ≤ℤ l → int_max (neg_ℤ l) (int_min a (pos 0)) ≤ℤ int_min l (int_max h (pos 0))
around_zero l a h p = ≤ℤ_trans (max_in (pos 0) _ _ (omega (arith, ints)) (min_r a (pos 0))) (min_in (pos 0) _ _ p (max_r h (pos 0)))
