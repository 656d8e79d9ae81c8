-- A product lies between the products of the ends.
use Rattle.std.proofs.Common.{ℕ, suc, ℤ, pos, negsuc, ◌*ℤ◌, ◌≤ℤ◌, arith, subst}
use Rattle.std.proofs.Math.IntN.{*ℤ_comm}
use Rattle.std.proofs.Math.Nat.{mul-le-mul_right}
use Rattle.std.proofs.lemmas.Int.{ints}
use borrow.Author.Differences.{le_out}
use Rattle.interval_dom.specs.Laws.{Always, Grows, Holds}
use Rattle.tm_numbers.specs.Operands.{AnyNumbers}
use Rattle.interval_dom.specs.Rows.{mul_row}
use Rattle.interval_dom.proofs.Corners.{Between, rising, falling, in_spanned, spanned_within, holds_lo, holds_hi}

pub times_natural : (a b : ℤ) (k : ℕ) → a ≤ℤ b → (a *ℤ pos k) ≤ℤ (b *ℤ pos k)
times_natural a b k h = omega (arith, ints, mul-le-mul_right k (le_out a b h))

pub times_negative : (a b : ℤ) (k : ℕ) → a ≤ℤ b → (b *ℤ negsuc k) ≤ℤ (a *ℤ negsuc k)
times_negative a b k h = omega (arith, ints, mul-le-mul_right (suc k) (le_out a b h))

-- the first factor moves from l to h
pub product_between : (l h x y : ℤ) → l ≤ℤ x → x ≤ℤ h → Between (l *ℤ y) (h *ℤ y) (x *ℤ y)
product_between l h x (pos k) p q = rising (times_natural l x k p) (times_natural x h k q)
product_between l h x (negsuc k) p q = falling (times_negative x h k q) (times_negative l x k p)

-- the second does
pub product_between_second : (l h x y : ℤ) → l ≤ℤ y → y ≤ℤ h → Between (x *ℤ l) (x *ℤ h) (x *ℤ y)
product_between_second l h x y p q =
    subst (λ (z : ℤ). Between (x *ℤ l) (x *ℤ h) z) (*ℤ_comm y x)
    (subst (λ (z : ℤ). Between (x *ℤ l) z (y *ℤ x)) (*ℤ_comm h x)
    (subst (λ (z : ℤ). Between z (h *ℤ x) (y *ℤ x)) (*ℤ_comm l x) (product_between l h y x p q)))

pub mul_holds : Holds Always AnyNumbers mul_row ◌*ℤ◌
mul_holds a b x y guard takes h k = in_spanned _ _ _ _ (a.lo *ℤ y) (a.hi *ℤ y) _
    (product_between_second b.lo b.hi a.lo y k.low k.high)
    (product_between_second b.lo b.hi a.hi y k.low k.high)
    (product_between a.lo a.hi x y h.low h.high)

pub mul_grows : Grows Always mul_row
mul_grows a b c d guard o p h k = spanned_within _ _ _ _ (mul_row c d)
    (mul_holds c d _ _ guard guard (holds_lo o h) (holds_lo p k))
    (mul_holds c d _ _ guard guard (holds_lo o h) (holds_hi p k))
    (mul_holds c d _ _ guard guard (holds_hi o h) (holds_lo p k))
    (mul_holds c d _ _ guard guard (holds_hi o h) (holds_hi p k))
