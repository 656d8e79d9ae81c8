-- Sets that are made from two ends and a stride.
use Rattle.std.proofs.Common.{◌≡◌, ℕ, ◌+◌, ◌*◌, ◌/◌, ◌%◌, ◌≤◌, ◌<◌, ◌⊎◌, inl, inr, ℤ, pos, ◌+ℤ◌, ◌-ℤ◌, ◌≤ℤ◌, ◌<ℤ◌, nat_abs, subst, arith, mul-le-mul_right}
use Rattle.std.proofs.lemmas.Int.{ints}
use Rattle.std.proofs.lemmas.Bool.{cases_lt}
use Rattle.strided_dom.specs.Progression.{Progression, empty, Has, IsExactly, IsSpaced, IsGreatestNumber}
use Rattle.tm_numbers.specs.Congruence.{IsCongruent}
use Rattle.tm_numbers.proofs.Congruences.{cong_refl, cong_up, cong_zero, strides_between}
use Rattle.strided_dom.proofs.Members.{not_in_empty}

-- a set has exactly the numbers with a property that is equivalent
pub exactly_same : (P Q : ℤ → Type 0) (s : Progression) → ((v : ℤ) → P v → Q v) → ((v : ℤ) → Q v → P v) → IsExactly P s → IsExactly Q s
exactly_same P Q s f g h = record { sound = λ v p. f v (h.sound v p); complete = λ v q. h.complete v (g v q) }

pub exactly_empty : (P : ℤ → Type 0) (s : Progression) → s ≡ empty → ((v : ℤ) → P v → ⊥) → IsExactly P s
exactly_empty P s e h = record { sound = λ v p. absurd (not_in_empty v (subst (λ x. Has x v) e p)); complete = λ v p. absurd (h v p) }

-- the greatest number below a bound
pub last_flat : (lo top : ℤ) (m : ℕ) → m ≡ 0 → lo ≤ℤ top → IsGreatestNumber (IsSpaced lo top m) lo
last_flat lo top m z ordered = record {
  member = record { from = omega (arith, ints); to = ordered; congruent = cong_refl m lo };
  bound = λ y h. (let e = cong_zero (subst (λ x. IsCongruent x y lo) z h.congruent) in omega (arith, ints));
}

pub last_by_rest : (lo top x : ℤ) (m : ℕ) → 0 < m → lo ≤ℤ top → x +ℤ pos (nat_abs (top -ℤ lo) % m) ≡ top → IsGreatestNumber (IsSpaced lo top m) x
last_by_rest lo top x m some ordered e = record {
  member = record { from = omega (arith, ints, x_is); to = omega (arith, ints); congruent = cong_up m q x lo x_is };
  bound = λ y h. (let k = strides_between h.congruent h.from in below k.0 (cases_lt q k.0) y h.to k.1);
}
  where
    d : ℕ
    d = nat_abs (top -ℤ lo)

    q : ℕ
    q = d / m

    d_is : q * m + d % m ≡ d
    d_is = omega arith

    x_is : x ≡ lo +ℤ pos (q * m)
    x_is = omega (arith, ints, d_is)

    below : (k : ℕ) → (q < k) ⊎ (k ≤ q) → (y : ℤ) → y ≤ℤ top → y ≡ lo +ℤ pos (k * m) → y ≤ℤ x
    below k (inl p) y to y_is =
        let r : d % m < m = omega arith in
        let a : (q + 1) * m ≤ k * m = mul-le-mul_right {m = q + 1} {n = k} m (omega arith) in
        absurd (omega (arith, ints, x_is, d_is))
    below k (inr p) y to y_is = omega (arith, ints, x_is, mul-le-mul_right {m = k} {n = q} m p)

-- the numbers up to the greatest are those up to the bound
pub exactly_up_to : (lo top x : ℤ) (m : ℕ) (s : Progression) → IsGreatestNumber (IsSpaced lo top m) x → IsExactly (IsSpaced lo x m) s → IsExactly (IsSpaced lo top m) s
exactly_up_to lo top x m s h exact =
    exactly_same (IsSpaced lo x m) (IsSpaced lo top m) s
    (λ v p. record { from = p.from; to = omega (arith, ints, p.to, h.member.to); congruent = p.congruent })
    (λ v p. record { from = p.from; to = h.bound v p; congruent = p.congruent }) exact

-- none lie between ends that are crossed
pub exactly_crossed : (lo hi : ℤ) (m : ℕ) (s : Progression) → hi <ℤ lo → s ≡ empty → IsExactly (IsSpaced lo hi m) s
exactly_crossed lo hi m s h e = exactly_empty (IsSpaced lo hi m) s e (λ v p. omega (arith, ints, p.from, p.to))

-- a bound may be lowered to a number that none of the numbers passes
pub exactly_within : (lo hi top : ℤ) (m : ℕ) (s : Progression) → ((v : ℤ) → IsSpaced lo hi m v → v ≤ℤ top) → top ≤ℤ hi → IsExactly (IsSpaced lo top m) s → IsExactly (IsSpaced lo hi m) s
exactly_within lo hi top m s h top_le exact =
    exactly_same (IsSpaced lo top m) (IsSpaced lo hi m) s
    (λ v p. record { from = p.from; to = omega (arith, ints, p.to); congruent = p.congruent })
    (λ v p. record { from = p.from; to = h v p; congruent = p.congruent }) exact
