-- Multiples of an integer: sums, differences, products, and the way to the naturals' divisibility.
use Rattle.std.proofs.Common.{◌≡◌, ℕ, suc, ◌/◌, ℤ, pos, negsuc, neg_ℤ, ◌+ℤ◌, ◌-ℤ◌, ◌*ℤ◌, arith, sym, ap, subst, ◌∙◌, ◌≢◌}
use Rattle.std.specs.Prelude.{unsigned_abs, int_div}
use Rattle.std.specs.Int.{◌∣◌}
use Rattle.std.proofs.Math.IntN.{*ℤ_comm, *ℤ-zero, neg_ℤ-neg_ℤ}
use Rattle.std.proofs.Math.Nat.{mul-div_cancel', dvd-mul_right}
use Rattle.std.proofs.lemmas.Int.{ints, quot-rem, unsigned_abs-mul}
use Rattle.tm_numbers.specs.Divisors.{Divides}
use Rattle.tm_numbers.specs.Divisors.{IsByRemainder}
use Rattle.tm_numbers.proofs.Integers.{mul_assoc, mul_add, mul_sub, mul_neg, neg_mul, exact_quotient, over_negative}

by_quotient : (m z q : ℤ) → z ≡ m *ℤ q → Divides m z
by_quotient m z q e = record { quotient = q; is = e }

pub divides_same : (m : ℤ) {z w : ℤ} → z ≡ w → Divides m z → Divides m w
divides_same m {z} {w} e h = by_quotient m w h.quotient (sym e ∙ h.is)

pub divides_zero : (m : ℤ) → Divides m (pos 0)
divides_zero m = by_quotient m (pos 0) (pos 0) (sym (*ℤ-zero m))

pub divides_self : (m : ℤ) → Divides m m
divides_self m = by_quotient m m (pos 1) (once m)
  where
    once : (m : ℤ) → m ≡ m *ℤ pos 1
    once m = omega (arith, ints)

pub divides_add : (m z w : ℤ) → Divides m z → Divides m w → Divides m (z +ℤ w)
divides_add m z w h k = by_quotient m _ (h.quotient +ℤ k.quotient)
    (ap (λ (t : ℤ). t +ℤ w) h.is ∙ ap (λ (t : ℤ). m *ℤ h.quotient +ℤ t) k.is ∙ sym (mul_add m h.quotient k.quotient))

pub divides_sub : (m z w : ℤ) → Divides m z → Divides m w → Divides m (z -ℤ w)
divides_sub m z w h k = by_quotient m _ (h.quotient -ℤ k.quotient)
    (ap (λ (t : ℤ). t -ℤ w) h.is ∙ ap (λ (t : ℤ). m *ℤ h.quotient -ℤ t) k.is ∙ sym (mul_sub m h.quotient k.quotient))

-- a multiple of a multiple
pub divides_times : (m z k : ℤ) → Divides m z → Divides m (z *ℤ k)
divides_times m z k h = by_quotient m _ (h.quotient *ℤ k) (ap (λ (t : ℤ). t *ℤ k) h.is ∙ mul_assoc m h.quotient k)

pub divides_trans : (m n z : ℤ) → Divides m n → Divides n z → Divides m z
divides_trans m n z h k = divides_same m (sym k.is) (divides_times m n k.quotient h)

pub divides_product : (m n z w : ℤ) → Divides m z → Divides n w → Divides (m *ℤ n) (z *ℤ w)
divides_product m n z w h k = by_quotient _ _ (h.quotient *ℤ k.quotient)
    (ap (λ (t : ℤ). t *ℤ w) h.is ∙ ap (λ (t : ℤ). (m *ℤ h.quotient) *ℤ t) k.is ∙ crossed m h.quotient n k.quotient)
  where
    crossed : (m p n q : ℤ) → (m *ℤ p) *ℤ (n *ℤ q) ≡ (m *ℤ n) *ℤ (p *ℤ q)
    crossed m p n q =
        mul_assoc m p (n *ℤ q)
        ∙ ap (λ (t : ℤ). m *ℤ t) (sym (mul_assoc p n q) ∙ ap (λ (t : ℤ). t *ℤ q) (*ℤ_comm p n) ∙ mul_assoc n p q)
        ∙ sym (mul_assoc m n (p *ℤ q))

pub divides_scaled : (m z k : ℤ) → Divides m z → Divides (m *ℤ k) (z *ℤ k)
divides_scaled m z k h = divides_product m k z k h (divides_self k)

-- ---- signs

pub divides_neg : (m z : ℤ) → Divides m z → Divides (neg_ℤ m) z
divides_neg m z h = by_quotient _ _ (neg_ℤ h.quotient)
    (h.is ∙ ap (λ (t : ℤ). m *ℤ t) (sym (neg_ℤ-neg_ℤ h.quotient)) ∙ mul_neg m (neg_ℤ h.quotient) ∙ sym (neg_mul m (neg_ℤ h.quotient)))

pub divides_from_abs : (m z : ℤ) → Divides (pos (unsigned_abs m)) z → Divides m z
divides_from_abs (pos n) z h = h
divides_from_abs (negsuc n) z h = divides_neg (pos (suc n)) z h

-- ---- the naturals' divisibility is that of the absolute values

pub to_natural : (m z : ℤ) → Divides m z → unsigned_abs m ∣ unsigned_abs z
to_natural m z h =
    subst (λ (t : ℕ). unsigned_abs m ∣ t) (sym (ap unsigned_abs h.is ∙ unsigned_abs-mul m h.quotient)) (dvd-mul_right (unsigned_abs m) (unsigned_abs h.quotient))

pub from_natural : (m : ℕ) (z : ℤ) → m ∣ unsigned_abs z → Divides (pos m) z
from_natural m (pos n) h = by_quotient _ _ (pos (n / m)) (ap pos (sym (mul-div_cancel' m h)))
from_natural m (negsuc n) h =
    by_quotient _ _ (neg_ℤ (pos (suc n / m))) (ap (λ (t : ℕ). neg_ℤ (pos t)) (sym (mul-div_cancel' m h)) ∙ sym (mul_neg (pos m) (pos (suc n / m))))

-- ---- exact quotients

-- the quotient of a multiple
pub quotient_is : (b z : ℤ) → b ≢ pos 0 → (h : Divides b z) → int_div z b ≡ h.quotient
quotient_is b z n h = ap (λ (t : ℤ). int_div t b) h.is ∙ exact_quotient b h.quotient n

-- where b divides both, m divides z exactly where the quotients do
pub quotient_divides : (b m z : ℤ) → b ≢ pos 0 → Divides b m → Divides m z → Divides (int_div m b) (int_div z b)
unfolding by_quotient
quotient_divides b m z n h k = by_quotient _ _ k.quotient
    (quotient_is b z n (by_quotient b z (h.quotient *ℤ k.quotient) (k.is ∙ ap (λ (t : ℤ). t *ℤ k.quotient) h.is ∙ mul_assoc b h.quotient k.quotient))
    ∙ ap (λ (t : ℤ). t *ℤ k.quotient) (sym (quotient_is b m n h)))

pub quotient_sub : (b z w : ℤ) → b ≢ pos 0 → Divides b z → Divides b w → int_div z b -ℤ int_div w b ≡ int_div (z -ℤ w) b
unfolding divides_sub by_quotient
quotient_sub b z w n h k =
    ap (λ (t : ℤ). t -ℤ int_div w b) (quotient_is b z n h) ∙ ap (λ (t : ℤ). h.quotient -ℤ t) (quotient_is b w n k)
    ∙ sym (quotient_is b (z -ℤ w) n (divides_sub b z w h k))

pub divides_abs : (m z : ℤ) → Divides m z → Divides (pos (unsigned_abs m)) z
divides_abs (pos n) z h = h
divides_abs (negsuc n) z h = divides_neg (negsuc n) z h

-- a quotient divides the same, whatever the divisor's sign
pub quotient_by_abs : (b m z : ℤ) → Divides (int_div m b) z → Divides (int_div m (pos (unsigned_abs b))) z
quotient_by_abs (pos n) m z h = h
quotient_by_abs (negsuc n) m z h =
    subst (λ (t : ℤ). Divides t z) (ap neg_ℤ (over_negative m n) ∙ neg_ℤ-neg_ℤ _) (divides_neg (int_div m (negsuc n)) z h)

no_rest : (p r z w : ℤ) → p +ℤ r ≡ z → p ≡ w → z ≡ w → r ≡ pos 0
no_rest p r z w e f g = omega (arith, ints)

all_of_it : (p r z : ℤ) → p +ℤ r ≡ z → r ≡ pos 0 → z ≡ p
all_of_it p r z e f = omega (arith, ints)

pub is_by_remainder : IsByRemainder
unfolding by_quotient
is_by_remainder b z n = (
  λ e. by_quotient b z (int_div z b) (all_of_it _ _ _ (quot-rem z b) e ∙ *ℤ_comm (int_div z b) b),
  λ h. no_rest _ _ _ _ (quot-rem z b) (ap (λ (t : ℤ). t *ℤ b) (quotient_is b z n h) ∙ *ℤ_comm h.quotient b) h.is,
)
