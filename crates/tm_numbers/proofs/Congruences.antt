-- Congruence of integers modulo a natural number.
use Rattle.std.proofs.Common.{◌≡◌, ℕ, suc, ◌+◌, ◌-◌, ◌*◌, ◌/◌, ◌≤◌, ◌<◌, ◌⊎◌, ◌∙◌, ℤ, pos, negsuc, ◌+ℤ◌, ◌-ℤ◌, ◌*ℤ◌, ◌≤ℤ◌, refl, sym, ap, subst, inl, inr, arith}
use Rattle.std.specs.Int.{◌∣◌}
use Rattle.std.proofs.Math.Nat.{dvd-mul_left, div-mul_cancel}
use Rattle.std.proofs.lemmas.Int.{ints}
use Rattle.std.proofs.lemmas.Bool.{cases_lt}
use Rattle.std.proofs.Math.IntN.{*ℤ_comm}
use Rattle.tm_numbers.specs.Congruence.{IsCongruent, IsByDivision}
use Rattle.tm_numbers.specs.Divisors.{Divides}
use Rattle.tm_numbers.proofs.Integers.{mul_sub, mul_neg}

pub cong_refl : (m : ℕ) (v : ℤ) → IsCongruent m v v
cong_refl m v = record { left = 0; right = 0; same = refl }

pub cong_sym : {m : ℕ} {v w : ℤ} → IsCongruent m v w → IsCongruent m w v
cong_sym h = record { left = h.right; right = h.left; same = sym h.same }

pub cong_trans : {m : ℕ} {u v w : ℤ} → IsCongruent m u v → IsCongruent m v w → IsCongruent m u w
cong_trans h k = record { left = h.left + k.left; right = h.right + k.right; same = omega (arith, ints) }

-- what d divides is its quotient by d times d
pub quotient : (d m : ℕ) → d ∣ m → m ≡ (m / d) * d
quotient d m h = sym (div-mul_cancel d h)

pub divides : (d k n : ℕ) → n ≡ k * d → d ∣ n
divides d k n e = subst (λ x. d ∣ x) (sym e) (dvd-mul_left d k)

-- a divisor of the modulus keeps the congruence
pub cong_weaken : {m : ℕ} {v w : ℤ} (d : ℕ) → d ∣ m → IsCongruent m v w → IsCongruent d v w
cong_weaken {m} {v} {w} d h k =
    record { left = k.left * (m / d); right = k.right * (m / d); same = weakened k.left k.right (m / d) (quotient d m h) k.same }
  where
    weakened : (l r q : ℕ) → m ≡ q * d → v +ℤ pos (l * m) ≡ w +ℤ pos (r * m) → v +ℤ pos (l * q * d) ≡ w +ℤ pos (r * q * d)
    weakened l r q e h = let m' = ap (λ x. l * x) e in let m'' = ap (λ x. r * x) e in omega (arith, ints)

-- a number some strides above another
pub cong_up : (m k : ℕ) (v w : ℤ) → v ≡ w +ℤ pos (k * m) → IsCongruent m v w
cong_up m k v w e = record { left = 0; right = k; same = omega (arith, ints) }

pub cong_from_dvd : (m d : ℕ) (v : ℤ) → m ∣ d → IsCongruent m (v +ℤ pos d) v
cong_from_dvd m d v h = cong_up m (d / m) (v +ℤ pos d) v (ap (λ x. v +ℤ pos x) (quotient m d h))

-- how many strides a congruent number lies above another
pub strides_between : {m : ℕ} {v w : ℤ} → IsCongruent m v w → w ≤ℤ v → (k : ℕ) × (v ≡ w +ℤ pos (k * m))
strides_between {m} {v} {w} h above = (h.right - h.left, difference h.left h.right (cases_lt h.right h.left) h.same)
  where
    more : (l r q : ℕ) → r ≡ l + q → v +ℤ pos (l * m) ≡ w +ℤ pos (r * m) → v ≡ w +ℤ pos (q * m)
    more l r q e h = let e' = ap (λ x. x * m) e in omega (arith, ints)

    fewer : (l r q : ℕ) → l ≡ r + q → v +ℤ pos (l * m) ≡ w +ℤ pos (r * m) → v ≡ w
    fewer l r q e h = let e' = ap (λ x. x * m) e in omega (arith, ints)

    difference : (l r : ℕ) → (r < l) ⊎ (l ≤ r) → v +ℤ pos (l * m) ≡ w +ℤ pos (r * m) → v ≡ w +ℤ pos ((r - l) * m)
    difference l r (inl p) e =
        let z : r - l ≡ 0 = omega arith in
        let s = fewer l r (l - r) (omega arith) e in
        let y : (r - l) * m ≡ 0 = rw z (omega arith) in
        omega (arith, ints)
    difference l r (inr p) e = more l r (r - l) (omega arith) e

pub dvd_from_cong : {m d : ℕ} (v : ℤ) → IsCongruent m (v +ℤ pos d) v → m ∣ d
dvd_from_cong {m} {d} v h =
    let k = strides_between h (omega (arith, ints)) in
    divides m k.0 d (omega (arith, ints, k.1))

-- congruent modulo 0 is equal
pub cong_zero : {v w : ℤ} → IsCongruent 0 v w → v ≡ w
cong_zero h = omega (arith, ints, h.same)

-- ---- congruence by division

apart : (l r m : ℕ) (x y : ℤ) → x +ℤ pos (l * m) ≡ y +ℤ pos (r * m) → x -ℤ y ≡ pos m *ℤ (pos r -ℤ pos l)
apart l r m x y e = sym (mul_sub (pos m) (pos r) (pos l) ∙ omega (arith, ints))

pub divided : (m : ℕ) (x y : ℤ) → IsCongruent m x y → Divides (pos m) (x -ℤ y)
divided m x y h = record { quotient = pos h.right -ℤ pos h.left; is = apart h.left h.right m x y h.same }

pub congruent_from : (m : ℕ) (v w : ℤ) → Divides (pos m) (v -ℤ w) → IsCongruent m v w
congruent_from m v w h = by_sign h.quotient h.is
  where
    by_sign : (q : ℤ) → v -ℤ w ≡ pos m *ℤ q → IsCongruent m v w
    by_sign (pos n) e = record { left = 0; right = n; same = omega (arith, ints, e) }
    by_sign (negsuc n) e = record { left = suc n; right = 0; same = (let f = mul_neg (pos m) (pos (suc n)) in omega (arith, ints, e, f)) }

pub is_by_division : IsByDivision
is_by_division m v w = (divided m v w, congruent_from m v w)

-- numbers that differ by a multiple of the modulus
pub congruent_by : (m : ℕ) (v w k : ℤ) → v ≡ w +ℤ k *ℤ pos m → IsCongruent m v w
congruent_by m v w k e = congruent_from m v w (record { quotient = k; is = omega (arith, ints, e, *ℤ_comm k (pos m)) })

pub turns_between : {m : ℕ} {v w : ℤ} → IsCongruent m v w → (k : ℤ) × (v ≡ w +ℤ k *ℤ pos m)
turns_between {m} {v} {w} h = let d = divided m v w h in (d.quotient, omega (arith, ints, d.is, *ℤ_comm d.quotient (pos m)))
