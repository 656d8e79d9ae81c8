-- Bits of integers in two's complement.
use Rattle.std.proofs.Common.{◌≡◌, ℕ, zero, suc, ◌+◌, ◌-◌, ◌*◌, ◌/◌, ◌%◌, ◌^◌, ◌<◌, ◌≤◌, min, max, ℤ, pos, negsuc, ◌≤ℤ◌, arith, refl, sym, ap, ◌∙◌, lit≤}
use Rattle.std.specs.Prelude.{bit_and, unsigned_abs, FitsSigned}
use Rattle.std.specs.Int.{Width, w8, w16, w32, w64, w128, bit_at, cast_unsigned, cast_signed, int_bit_and, int_bit_or, int_bit_xor}
use mir.Val.{bits, hbits}
use Rattle.std.proofs.lemmas.Nat.{pow_pos, and_le_l, and_comm, or_comm, or_lt, xor_lt, le_or_l, le_or_r, and_block, div-add-mod'}
use Rattle.std.proofs.lemmas.Nat.Bits.{bit_at_lowest, bit_at-suc, bit_at_and, bit_at_or, bit_at_xor, bit_at_not, bit_at-lt, same_from_bits_below}
use Rattle.std.proofs.lemmas.Int.{ints, to_z-of_z}
use Rattle.interval_dom.specs.Bitwise.{bit_of, bits_without, int_and, int_or, int_xor}

-- ---- the bits of m that n has not

low_cases : (r s : ℕ) → r < 2 → s < 2 → (bit_and r s ≡ min r s) × (bits_without r s ≡ min r (1 - s))
low_cases zero zero p q = (refl, refl)
low_cases zero (suc zero) p q = (refl, refl)
low_cases (suc zero) zero p q = (refl, refl)
low_cases (suc zero) (suc zero) p q = (refl, refl)
low_cases zero (suc (suc s)) p q = absurd (omega arith)
low_cases (suc zero) (suc (suc s)) p q = absurd (omega arith)
low_cases (suc (suc r)) s p q = absurd (omega arith)

and_halves : (m n : ℕ) → bit_and m n ≡ bit_and (m / 2) (n / 2) * 2 + bit_and (m % 2) (n % 2)
and_halves m n =
    ap (λ (x : ℕ). bit_and x n) (sym (div-add-mod' m 2)) ∙ ap (λ (y : ℕ). bit_and (m / 2 * 2 + m % 2) y) (sym (div-add-mod' n 2))
    ∙ and_block 1 (m / 2) (n / 2) (m % 2) (n % 2) (omega arith) (omega arith)

without_parts : (m n : ℕ) → (bits_without m n / 2 ≡ bits_without (m / 2) (n / 2)) × (bits_without m n % 2 ≡ min (m % 2) (1 - n % 2))
without_parts m n =
    let e = and_halves m n in
    let c = low_cases (m % 2) (n % 2) (omega arith) (omega arith) in
    let h = and_le_l (m / 2) (n / 2) in
    (omega arith, omega arith)

bit_at_without : (i m n : ℕ) → bit_at (bits_without m n) i ≡ min (bit_at m i) (1 - bit_at n i)
bit_at_without zero m n =
    bit_at_lowest (bits_without m n) ∙ (without_parts m n).1 ∙ ap (λ (x : ℕ). min x (1 - n % 2)) (sym (bit_at_lowest m)) ∙ ap (λ (y : ℕ). min (bit_at m 0) (1 - y)) (sym (bit_at_lowest n))
bit_at_without (suc i) m n =
    bit_at-suc (bits_without m n) i ∙ ap (λ (x : ℕ). bit_at x i) (without_parts m n).0 ∙ bit_at_without i (m / 2) (n / 2)
    ∙ ap (λ (x : ℕ). min x (1 - bit_at (n / 2) i)) (sym (bit_at-suc m i)) ∙ ap (λ (y : ℕ). min (bit_at m (suc i)) (1 - y)) (sym (bit_at-suc n i))

-- ---- each bit of a result is that of the operands' bits

pub bits_of_and : (x y : ℤ) (i : ℕ) → bit_of (int_and x y) i ≡ min (bit_of x i) (bit_of y i)
bits_of_and (pos m) (pos n) i = bit_at_and m n i
bits_of_and (pos m) (negsuc n) i = bit_at_without i m n
bits_of_and (negsuc m) (pos n) i = let e = bit_at_without i n m in omega arith
bits_of_and (negsuc m) (negsuc n) i = let e = bit_at_or m n i in omega arith

pub bits_of_or : (x y : ℤ) (i : ℕ) → bit_of (int_or x y) i ≡ max (bit_of x i) (bit_of y i)
bits_of_or (pos m) (pos n) i = bit_at_or m n i
bits_of_or (pos m) (negsuc n) i = let e = bit_at_without i n m in let p = bit_at-lt m i in omega arith
bits_of_or (negsuc m) (pos n) i = let e = bit_at_without i m n in let p = bit_at-lt n i in omega arith
bits_of_or (negsuc m) (negsuc n) i = let e = bit_at_and m n i in omega arith

pub bits_of_xor : (x y : ℤ) (i : ℕ) → bit_of (int_xor x y) i ≡ (bit_of x i + bit_of y i) % 2
bits_of_xor (pos m) (pos n) i = bit_at_xor m n i
bits_of_xor (pos m) (negsuc n) i = let e = bit_at_xor m n i in let p = bit_at-lt m i in let q = bit_at-lt n i in omega arith
bits_of_xor (negsuc m) (pos n) i = let e = bit_at_xor m n i in let p = bit_at-lt m i in let q = bit_at-lt n i in omega arith
bits_of_xor (negsuc m) (negsuc n) i = let e = bit_at_xor m n i in let p = bit_at-lt m i in let q = bit_at-lt n i in omega arith

-- ---- a signed type holds the result where it holds the operands, and its own operators give it

fits_pos : (w : Width) (n : ℕ) → n < 2 ^ hbits w → FitsSigned w (pos n)
fits_pos w n h = record { sfits = h }

fits_negsuc : (w : Width) (n : ℕ) → n < 2 ^ hbits w → FitsSigned w (negsuc n)
fits_negsuc w n h = record { sfits = h }

below_first : (m n t : ℕ) → m < t → bits_without m n < t
below_first m n t h = omega arith

and_below : (m n t : ℕ) → m < t → bit_and m n < t
and_below m n t h = omega (arith, and_le_l m n)

and_fits : (w : Width) (x y : ℤ) → FitsSigned w x → FitsSigned w y → FitsSigned w (int_and x y)
and_fits w (pos m) (pos n) f g = fits_pos w _ (and_below m n _ f.sfits)
and_fits w (pos m) (negsuc n) f g = fits_pos w _ (below_first m n _ f.sfits)
and_fits w (negsuc m) (pos n) f g = fits_pos w _ (below_first n m _ g.sfits)
and_fits w (negsuc m) (negsuc n) f g = fits_negsuc w _ (or_lt (hbits w) m n f.sfits g.sfits)

or_fits : (w : Width) (x y : ℤ) → FitsSigned w x → FitsSigned w y → FitsSigned w (int_or x y)
or_fits w (pos m) (pos n) f g = fits_pos w _ (or_lt (hbits w) m n f.sfits g.sfits)
or_fits w (pos m) (negsuc n) f g = fits_negsuc w _ (below_first n m _ g.sfits)
or_fits w (negsuc m) (pos n) f g = fits_negsuc w _ (below_first m n _ f.sfits)
or_fits w (negsuc m) (negsuc n) f g = fits_negsuc w _ (and_below m n _ f.sfits)

xor_fits : (w : Width) (x y : ℤ) → FitsSigned w x → FitsSigned w y → FitsSigned w (int_xor x y)
xor_fits w (pos m) (pos n) f g = fits_pos w _ (xor_lt (hbits w) m n f.sfits g.sfits)
xor_fits w (pos m) (negsuc n) f g = fits_negsuc w _ (xor_lt (hbits w) m n f.sfits g.sfits)
xor_fits w (negsuc m) (pos n) f g = fits_negsuc w _ (xor_lt (hbits w) m n f.sfits g.sfits)
xor_fits w (negsuc m) (negsuc n) f g = fits_pos w _ (xor_lt (hbits w) m n f.sfits g.sfits)

halves : (w : Width) → 2 ^ hbits w ≤ 2 ^ bits w
halves w8 = lit≤ tt
halves w16 = lit≤ tt
halves w32 = lit≤ tt
halves w64 = lit≤ tt
halves w128 = lit≤ tt

-- the bits that a type keeps of a number
type_bits : (w : Width) (z : ℤ) (i : ℕ) → FitsSigned w z → i < bits w → bit_at (cast_unsigned w z) i ≡ bit_of z i
type_bits w (pos n) i f h = refl
type_bits w (negsuc n) i f h =
    let small : n < 2 ^ bits w = omega (arith, halves w, f.sfits) in
    let e : 2 ^ bits w - suc n ≡ 2 ^ bits w - 1 - n = omega arith in
    ap (λ (x : ℕ). bit_at x i) e ∙ bit_at_not w n i small h

type_below : (w : Width) (z : ℤ) → FitsSigned w z → cast_unsigned w z < 2 ^ bits w
type_below w (pos n) f = omega (arith, halves w, f.sfits)
type_below w (negsuc n) f = omega (arith, pow_pos (bits w))

same_min : (a b c p q r : ℕ) → p ≡ a → q ≡ b → r ≡ c → c ≡ min a b → min p q ≡ r
same_min a b c p q r e f g h = omega arith

same_max : (a b c p q r : ℕ) → p ≡ a → q ≡ b → r ≡ c → c ≡ max a b → max p q ≡ r
same_max a b c p q r e f g h = omega arith

same_sum : (a b c p q r : ℕ) → p ≡ a → q ≡ b → r ≡ c → c ≡ (a + b) % 2 → (p + q) % 2 ≡ r
same_sum a b c p q r e f g h = ap (λ (x : ℕ). (x + q) % 2) e ∙ ap (λ (x : ℕ). (a + x) % 2) f ∙ sym h ∙ sym g

pub type_and : (w : Width) (x y : ℤ) → FitsSigned w x → FitsSigned w y → int_bit_and w x y ≡ int_and x y
type_and w x y f g =
    ap (cast_signed w) (same_from_bits_below (bits w) _ _ (and_below _ _ _ (type_below w x f)) (type_below w (int_and x y) (and_fits w x y f g)) (λ i h.
    bit_at_and (cast_unsigned w x) (cast_unsigned w y) i
    ∙ same_min _ _ _ _ _ _ (type_bits w x i f h) (type_bits w y i g h) (type_bits w (int_and x y) i (and_fits w x y f g) h) (bits_of_and x y i)))
    ∙ to_z-of_z w (int_and x y) (and_fits w x y f g)

pub type_or : (w : Width) (x y : ℤ) → FitsSigned w x → FitsSigned w y → int_bit_or w x y ≡ int_or x y
type_or w x y f g =
    ap (cast_signed w) (same_from_bits_below (bits w) _ _ (or_lt (bits w) _ _ (type_below w x f) (type_below w y g)) (type_below w (int_or x y) (or_fits w x y f g)) (λ i h.
    bit_at_or (cast_unsigned w x) (cast_unsigned w y) i
    ∙ same_max _ _ _ _ _ _ (type_bits w x i f h) (type_bits w y i g h) (type_bits w (int_or x y) i (or_fits w x y f g) h) (bits_of_or x y i)))
    ∙ to_z-of_z w (int_or x y) (or_fits w x y f g)

pub type_xor : (w : Width) (x y : ℤ) → FitsSigned w x → FitsSigned w y → int_bit_xor w x y ≡ int_xor x y
type_xor w x y f g =
    ap (cast_signed w) (same_from_bits_below (bits w) _ _ (xor_lt (bits w) _ _ (type_below w x f) (type_below w y g)) (type_below w (int_xor x y) (xor_fits w x y f g)) (λ i h.
    bit_at_xor (cast_unsigned w x) (cast_unsigned w y) i
    ∙ same_sum _ _ _ _ _ _ (type_bits w x i f h) (type_bits w y i g h) (type_bits w (int_xor x y) i (xor_fits w x y f g) h) (bits_of_xor x y i)))
    ∙ to_z-of_z w (int_xor x y) (xor_fits w x y f g)

-- ---- where the results lie

pub int_and_comm : (x y : ℤ) → int_and x y ≡ int_and y x
int_and_comm (pos m) (pos n) = ap pos (and_comm m n)
int_and_comm (pos m) (negsuc n) = refl
int_and_comm (negsuc m) (pos n) = refl
int_and_comm (negsuc m) (negsuc n) = ap negsuc (or_comm m n)

pub and_between : (x y : ℤ) → pos 0 ≤ℤ x → (pos 0 ≤ℤ int_and x y) × (int_and x y ≤ℤ x)
and_between (pos m) (pos n) h = let k = and_le_l m n in (omega (arith, ints), omega (arith, ints))
and_between (pos m) (negsuc n) h = (omega (arith, ints), omega (arith, ints))
and_between (negsuc m) y h = absurd (omega (arith, ints))

-- the most that `|` and `^` give where both operands have at most k digits
pub or_between : (x y : ℤ) (k : ℕ) → pos 0 ≤ℤ x → pos 0 ≤ℤ y → unsigned_abs x < 2 ^ k → unsigned_abs y < 2 ^ k → (x ≤ℤ int_or x y) × (y ≤ℤ int_or x y) × (int_or x y ≤ℤ pos (2 ^ k - 1))
or_between (pos m) (pos n) k h j p q =
    let t = or_lt k m n p q in
    let l = le_or_l m n in
    let r = le_or_r m n in (omega (arith, ints), omega (arith, ints), omega (arith, ints))
or_between (pos m) (negsuc n) k h j p q = absurd (omega (arith, ints))
or_between (negsuc m) y k h j p q = absurd (omega (arith, ints))

pub xor_between : (x y : ℤ) (k : ℕ) → pos 0 ≤ℤ x → pos 0 ≤ℤ y → unsigned_abs x < 2 ^ k → unsigned_abs y < 2 ^ k → (pos 0 ≤ℤ int_xor x y) × (int_xor x y ≤ℤ pos (2 ^ k - 1))
xor_between (pos m) (pos n) k h j p q = let t = xor_lt k m n p q in (omega (arith, ints), omega (arith, ints))
xor_between (pos m) (negsuc n) k h j p q = absurd (omega (arith, ints))
xor_between (negsuc m) y k h j p q = absurd (omega (arith, ints))
