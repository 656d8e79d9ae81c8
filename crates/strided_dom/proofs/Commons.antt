-- Common multiples, and the numbers that two progressions have in common.
use Rattle.std.proofs.Common.{◌≡◌, ℕ, zero, suc, ◌+◌, ◌-◌, ◌*◌, ◌/◌, ◌%◌, ◌≤◌, ◌<◌, ◌⊎◌, inl, inr, ⊎_elim, ℤ, pos, ◌+ℤ◌, ◌-ℤ◌, ◌≤ℤ◌, ◌<ℤ◌, nat_abs, refl, sym, ap, ◌∙◌, subst, arith, mul-le-mul_right}
use Rattle.std.specs.Int.{◌∣◌, IsGcd, int_min}
use Rattle.std.proofs.Math.Nat.{dvd-mod_iff, dvd-add_iff_right, dvd-mul_left_of_dvd, dvd_of_mul-dvd-mul_right, mul-dvd-mul_right, dvd-mul_left, dvd-zero, eq-zero_of_zero-dvd, eq-zero-or-pos, le_of_dvd, pos_of_dvd_of_pos}
use Rattle.std.proofs.lemmas.Nat.Gcd.{dvd_trans, IsGcd-from_zero, same_from_IsGcd}
use Rattle.std.proofs.lemmas.Bool.{cases_lt}
use Rattle.std.proofs.lemmas.Int.{ints, clamps}
use Rattle.strided_dom.specs.reading.Equations.{IsLeastFactor, HasNoFactor, IsCommonStride}
use Rattle.strided_dom.specs.Progression.{Progression, empty, Has, IsExactly, IsSpaced, IsLeastNumber}
use Rattle.tm_numbers.specs.Congruence.{IsCongruent}
use Rattle.strided_dom.specs.Combinations.{IsInBoth}
use Rattle.strided_dom.specs.reading.Fields.{AreEndsOf, IsCommon}
use Rattle.tm_numbers.proofs.Congruences.{cong_refl, cong_sym, cong_trans, cong_up, cong_zero, cong_from_dvd, dvd_from_cong, strides_between, quotient}
use Rattle.strided_dom.proofs.Members.{not_in_empty}
use Rattle.strided_dom.proofs.Spans.{exactly_same, exactly_empty}
use Rattle.strided_dom.proofs.Hulls.{spaced_of, has_of}

-- one step of Euclid's algorithm, downwards
gcd_down : (a b g : ℕ) → IsGcd a b g → IsGcd b (a % b) g
gcd_down a b g h = (h.1, (dvd-mod_iff g h.1).1 h.0, λ d p q. h.2 d ((dvd-mod_iff d p).0 q) p)

-- what divides j times a and j times b divides j times their greatest common divisor
pub dvd_gcd_mul : (fuel a b g d j : ℕ) → b ≤ fuel → IsGcd a b g → d ∣ a * j → d ∣ b * j → d ∣ g * j
dvd_gcd_mul zero a b g d j h div p q =
    subst (λ x. d ∣ x * j) (sym (same_from_IsGcd a b g a div (IsGcd-from_zero a b (omega arith)))) p
dvd_gcd_mul (suc fuel) a b g d j h div p q =
    ⊎_elim stop (λ some. dvd_gcd_mul fuel b (a % b) g d j (less some) (gcd_down a b g div) q (rest some)) (eq-zero-or-pos b)
  where
    stop : b ≡ 0 → d ∣ g * j
    stop e = subst (λ x. d ∣ x * j) (sym (same_from_IsGcd a b g a div (IsGcd-from_zero a b e))) p

    less : 0 < b → a % b ≤ fuel
    less some = (let r : a % b < b = omega arith in omega arith)

    split : 0 < b → a * j ≡ a / b * (b * j) + a % b * j
    split some = (let e : a ≡ a / b * b + a % b = omega arith in ap (λ x. x * j) e ∙ omega arith)

    rest : 0 < b → d ∣ a % b * j
    rest some = (dvd-add_iff_right d (dvd-mul_left_of_dvd d q (a / b))).1 (subst (λ x. d ∣ x) (split some) p)

module _ (m n g : ℕ) (div : IsGcd m n g) (some : 0 < m) where
  pub g_some : 0 < g
  g_some = pos_of_dvd_of_pos div.0 some

  -- a common multiple is a multiple of m / g * n
  lcm_dvd : (j : ℕ) → m ∣ j → n ∣ j → m / g * n ∣ j
  lcm_dvd j p q =
      let i = j / n in
      let j_is : j ≡ i * n = quotient n j q in
      let a : m ∣ m * i = subst (λ x. m ∣ x) (omega arith) (dvd-mul_left m i) in
      let b : m ∣ n * i = subst (λ x. m ∣ x) (j_is ∙ omega arith) p in
      let c : m / g * g ∣ i * g = subst (λ x. x ∣ i * g) (quotient g m div.0) (subst (λ x. m ∣ x) (omega arith) (dvd_gcd_mul n m n g m i (omega arith) div a b)) in
      let d : m / g ∣ i = dvd_of_mul-dvd-mul_right (m / g) g_some c in
      subst (λ x. m / g * n ∣ x) (sym j_is) (mul-dvd-mul_right (m / g) d n)

  left_dvd_lcm : m ∣ m / g * n
  left_dvd_lcm =
      let n_is : n ≡ n / g * g = quotient g n div.1 in
      let m_is : m ≡ m / g * g = quotient g m div.0 in
      subst (λ x. m ∣ x) (ap (λ x. n / g * x) m_is ∙ omega arith ∙ ap (λ x. m / g * x) (sym n_is)) (dvd-mul_left m (n / g))

  pub common_from_lcm : (limit : ℕ) → IsCommonStride m n limit (m / g * n)
  common_from_lcm limit = record {
    sound = λ j _ h. (dvd_trans m left_dvd_lcm h, dvd_trans n (dvd-mul_left n (m / g)) h);
    complete = λ j _ p q. lcm_dvd j p q;
  }

  pub lcm_fits : (limit : ℕ) → 0 < n → m / g ≤ limit / n → m / g * n ≤ limit
  lcm_fits limit more h =
      let a : m / g * n ≤ limit / n * n = mul-le-mul_right {m = m / g} {n = limit / n} n h in
      let e : limit / n * n + limit % n ≡ limit = omega arith in
      omega arith

  pub common_beyond : (limit : ℕ) → 0 < n → limit / n < m / g → IsCommonStride m n limit 0
  common_beyond limit more beyond = record {
    sound = λ j _ h. (subst (λ x. m ∣ x) (sym (eq-zero_of_zero-dvd h)) (dvd-zero m), subst (λ x. n ∣ x) (sym (eq-zero_of_zero-dvd h)) (dvd-zero n));
    complete = λ j le p q. ⊎_elim (λ z. subst (λ x. 0 ∣ x) (sym z) (dvd-zero 0)) (λ above. absurd (far j le (le_of_dvd above (lcm_dvd j p q)))) (eq-zero-or-pos j);
  }
    where
      far : (j : ℕ) → j ≤ limit → m / g * n ≤ j → ⊥
      far j le h =
          let a : (limit / n + 1) * n ≤ m / g * n = mul-le-mul_right {m = limit / n + 1} {n = m / g} n (omega arith) in
          let r : limit % n < n = omega arith in
          let e : limit / n * n + limit % n ≡ limit = omega arith in
          omega arith

pub common_of_zero_left : (m n limit : ℕ) → m ≡ 0 → IsCommonStride m n limit 0
common_of_zero_left m n limit z = record {
  sound = λ j _ h. (let e = eq-zero_of_zero-dvd h in (subst (λ x. m ∣ x) (sym e) (dvd-zero m), subst (λ x. n ∣ x) (sym e) (dvd-zero n)));
  complete = λ j _ p q. subst (λ x. x ∣ j) z p;
}

pub common_of_zero_right : (m n limit : ℕ) → n ≡ 0 → IsCommonStride m n limit 0
common_of_zero_right m n limit z = record {
  sound = λ j _ h. (let e = eq-zero_of_zero-dvd h in (subst (λ x. m ∣ x) (sym e) (dvd-zero m), subst (λ x. n ∣ x) (sym e) (dvd-zero n)));
  complete = λ j _ p q. subst (λ x. x ∣ j) z q;
}

-- a multiple of m' above d is a multiple of m where it solves an equation
to_solution : (d m m' j e : ℕ) → 0 < m → 0 < d % m → d + j * m' ≡ e * m → (k : ℕ) × (m' % m * j ≡ m * k + (m - d % m))
to_solution d m m' j e some left h = by (cases_lt b e)
  where
    b : ℕ
    b = d / m + m' / m * j

    d_is : d ≡ d / m * m + d % m
    d_is = omega arith

    m_is : m' * j ≡ (m' / m * m + m' % m) * j
    m_is = ap (λ x. x * j) (omega arith)

    below : d % m < m
    below = omega arith

    whole : b * m + (d % m + m' % m * j) ≡ e * m
    whole = omega (arith, d_is, m_is, h)

    by : (b < e) ⊎ (e ≤ b) → (k : ℕ) × (m' % m * j ≡ m * k + (m - d % m))
    by (inl p) =
        let e_is : e * m ≡ (b + (e - b - 1) + 1) * m = ap (λ x. x * m) (omega arith) in
        (e - b - 1, omega (arith, whole, e_is, below))
    by (inr p) = absurd (omega (arith, whole, mul-le-mul_right m p))

from_solution : (d m m' j k : ℕ) → 0 < m → m' % m * j ≡ m * k + (m - d % m) → d + j * m' ≡ (d / m + m' / m * j + k + 1) * m
from_solution d m m' j k some h =
    let d_is : d ≡ d / m * m + d % m = omega arith in
    let m_is : m' * j ≡ (m' / m * m + m' % m) * j = ap (λ x. x * j) (omega arith) in
    let below : d % m < m = omega arith in
    omega (arith, d_is, m_is, h, below)

module _ (lo : ℤ) (m : ℕ) (lo' top : ℤ) (m' d : ℕ) (lo_is : lo' ≡ lo +ℤ pos d) where
  pub common_first : m ∣ d → lo' ≤ℤ top → IsLeastNumber (IsCommon lo m lo' top m') lo'
  common_first h ordered = record {
    member = record {
      spaced = record { from = omega (arith, ints); to = ordered; congruent = cong_refl m' lo' };
      congruent = subst (λ x. IsCongruent m x lo) (sym lo_is) (cong_from_dvd m d lo h);
    };
    bound = λ y p. p.spaced.from;
  }

  pub no_common_flat : m ≡ 0 → (d ≡ 0 → ⊥) → (v : ℤ) → ¬ IsCommon lo m lo' top m' v
  no_common_flat z some v p = (let e = cong_zero (subst (λ x. IsCongruent x v lo) z p.congruent) in some (omega (arith, ints, p.spaced.from)))

  pub no_common_fixed : m' ≡ 0 → (m ∣ d → ⊥) → (v : ℤ) → ¬ IsCommon lo m lo' top m' v
  no_common_fixed z apart v p =
      let e = cong_zero (subst (λ x. IsCongruent x v lo') z p.spaced.congruent) in
      apart (dvd_from_cong lo (subst (λ x. IsCongruent m x lo) (e ∙ lo_is) p.congruent))

  module _ (some : 0 < m) (left : 0 < d % m) where
    -- the number of strides to a common number solves the equation
    pub steps_of : (v : ℤ) → IsCommon lo m lo' top m' v → (j : ℕ) × ((v ≡ lo' +ℤ pos (j * m')) × ((k : ℕ) × (m' % m * j ≡ m * k + (m - d % m))))
    steps_of v p =
        let j = strides_between p.spaced.congruent p.spaced.from in
        let e = strides_between p.congruent (omega (arith, ints, p.spaced.from)) in
        (j.0, (j.1, to_solution d m m' j.0 e.0 some left (omega (arith, ints, j.1, e.1, lo_is))))

    pub no_common_solution : HasNoFactor (m' % m) (m - d % m) m → (v : ℤ) → ¬ IsCommon lo m lo' top m' v
    no_common_solution none v p = (let s = steps_of v p in none s.0 s.1.1.0 s.1.1.1)

    module _ (steps k far : ℕ) (gap : 0 < m') (top_is : top ≡ lo' +ℤ pos far) (solution : IsLeastFactor (m' % m) (m - d % m) m steps k) where
      pub no_common_beyond : far / m' < steps → (v : ℤ) → ¬ IsCommon lo m lo' top m' v
      no_common_beyond beyond v p =
          let s = steps_of v p in
          let first : steps ≤ s.0 = solution.least s.0 s.1.1.0 s.1.1.1 in
          let a : (far / m' + 1) * m' ≤ s.0 * m' = mul-le-mul_right {m = far / m' + 1} {n = s.0} m' (omega arith) in
          let e : far / m' * m' + far % m' ≡ far = omega arith in
          let r : far % m' < m' = omega arith in
          omega (arith, ints, a, e, r, s.1.0, p.spaced.to)

      pub steps_fit : steps ≤ far / m' → steps * m' ≤ far
      steps_fit near =
          let a : steps * m' ≤ far / m' * m' = mul-le-mul_right {m = steps} {n = far / m'} m' near in
          let e : far / m' * m' + far % m' ≡ far = omega arith in
          omega (arith, a, e)

      pub common_found : steps ≤ far / m' → IsLeastNumber (IsCommon lo m lo' top m') (lo' +ℤ pos (steps * m'))
      common_found near = record {
        member = record {
          spaced = record { from = omega (arith, ints); to = omega (arith, ints, steps_fit near); congruent = cong_up m' steps (lo' +ℤ pos (steps * m')) lo' refl };
          congruent = cong_up m (d / m + m' / m * steps + k + 1) (lo' +ℤ pos (steps * m')) lo
              (omega (arith, ints, lo_is, from_solution d m m' steps k some solution.solves));
        };
        bound = λ v p.
            let s = steps_of v p in
            let first : steps ≤ s.0 = solution.least s.0 s.1.1.0 s.1.1.1 in
            omega (arith, ints, s.1.0, mul-le-mul_right m' first);
      }

-- the intersection of two sets, from their least common number
meet_one : (a b : Progression) (lo hi : ℤ) (m : ℕ) (lo' hi' : ℤ) (m' : ℕ) (top v : ℤ) → AreEndsOf a lo hi m → AreEndsOf b lo' hi' m' → top ≡ int_min hi hi' → IsInBoth a b v → IsCommon lo m lo' top m' v
meet_one a b lo hi m lo' hi' m' top v h k e p =
    let x = spaced_of a lo hi m v h p.0 in
    let y = spaced_of b lo' hi' m' v k p.1 in
    record { spaced = record { from = y.from; to = omega (arith, ints, clamps, x.to, y.to); congruent = y.congruent }; congruent = x.congruent }

meet_other : (a b : Progression) (lo hi : ℤ) (m : ℕ) (lo' hi' : ℤ) (m' : ℕ) (top v : ℤ) → AreEndsOf a lo hi m → AreEndsOf b lo' hi' m' → lo ≤ℤ lo' → top ≡ int_min hi hi' → IsCommon lo m lo' top m' v → IsInBoth a b v
meet_other a b lo hi m lo' hi' m' top v h k order e p = (
  has_of a lo hi m v h (record { from = omega (arith, ints, p.spaced.from); to = omega (arith, ints, clamps, p.spaced.to); congruent = p.congruent }),
  has_of b lo' hi' m' v k (record { from = p.spaced.from; to = omega (arith, ints, clamps, p.spaced.to); congruent = p.spaced.congruent }),
)

pub meet_crossed : (a b r : Progression) (lo hi : ℤ) (m : ℕ) (lo' hi' : ℤ) (m' : ℕ) (top : ℤ) → AreEndsOf a lo hi m → AreEndsOf b lo' hi' m' → top ≡ int_min hi hi' → top <ℤ lo' → r ≡ empty → IsExactly (IsInBoth a b) r
meet_crossed a b r lo hi m lo' hi' m' top h k e crossed z =
    exactly_empty (IsInBoth a b) r z (λ v p. (let q = meet_one a b lo hi m lo' hi' m' top v h k e p in omega (arith, ints, q.spaced.from, q.spaced.to)))

pub meet_none : (a b r : Progression) (lo hi : ℤ) (m : ℕ) (lo' hi' : ℤ) (m' : ℕ) (top : ℤ) → AreEndsOf a lo hi m → AreEndsOf b lo' hi' m' → top ≡ int_min hi hi' → ((v : ℤ) → ¬ IsCommon lo m lo' top m' v) → r ≡ empty → IsExactly (IsInBoth a b) r
meet_none a b r lo hi m lo' hi' m' top h k e none z =
    exactly_empty (IsInBoth a b) r z (λ v p. none v (meet_one a b lo hi m lo' hi' m' top v h k e p))

pub meet_is : (a b r : Progression) (lo hi : ℤ) (m : ℕ) (lo' hi' : ℤ) (m' : ℕ) (top first : ℤ) (step : ℕ) → AreEndsOf a lo hi m → AreEndsOf b lo' hi' m' → lo ≤ℤ lo' → top ≡ int_min hi hi'
    → IsLeastNumber (IsCommon lo m lo' top m') first → IsCommonStride m m' (nat_abs (top -ℤ first)) step → IsExactly (IsSpaced first top step) r → IsExactly (IsInBoth a b) r
meet_is a b r lo hi m lo' hi' m' top first step h k order e least common exact =
    exactly_same (IsSpaced first top step) (IsInBoth a b) r
    (λ v p. meet_other a b lo hi m lo' hi' m' top v h k order e (inside v p))
    (λ v p. spaced v (meet_one a b lo hi m lo' hi' m' top v h k e p)) exact
  where
    start : IsCommon lo m lo' top m' first
    start = least.member

    inside : (v : ℤ) → IsSpaced first top step v → IsCommon lo m lo' top m' v
    inside v p =
        let j = strides_between p.congruent p.from in
        let both = common.sound (j.0 * step) (omega (arith, ints, j.1, p.to)) (dvd-mul_left step j.0) in
        let left = subst (λ x. IsCongruent m x first) (sym j.1) (cong_from_dvd m (j.0 * step) first both.0) in
        let right = subst (λ x. IsCongruent m' x first) (sym j.1) (cong_from_dvd m' (j.0 * step) first both.1) in
        record {
          spaced = record { from = omega (arith, ints, p.from, start.spaced.from); to = p.to; congruent = cong_trans right start.spaced.congruent };
          congruent = cong_trans left start.congruent;
        }

    spaced : (v : ℤ) → IsCommon lo m lo' top m' v → IsSpaced first top step v
    spaced v p =
        let from = least.bound v p in
        let d = nat_abs (v -ℤ first) in
        let v_is : v ≡ first +ℤ pos d = omega (arith, ints) in
        let left : m ∣ d = dvd_from_cong first (subst (λ x. IsCongruent m x first) v_is (cong_trans p.congruent (cong_sym start.congruent))) in
        let right : m' ∣ d = dvd_from_cong first (subst (λ x. IsCongruent m' x first) v_is (cong_trans p.spaced.congruent (cong_sym start.spaced.congruent))) in
        let whole = common.complete d (omega (arith, ints, p.spaced.to)) left right in
        record { from = from; to = p.spaced.to; congruent = subst (λ x. IsCongruent step x first) (sym v_is) (cong_from_dvd step d first whole) }

pub exactly_both_turned : (a b r : Progression) → IsExactly (IsInBoth b a) r → IsExactly (IsInBoth a b) r
exactly_both_turned a b r h = record { sound = λ v p. (let q = h.sound v p in (q.1, q.0)); complete = λ v p. h.complete v (p.1, p.0) }

pub meet_left_empty : (a b : Progression) → a ≡ empty → IsExactly (IsInBoth a b) a
meet_left_empty a b e = exactly_empty (IsInBoth a b) a e (λ v p. not_in_empty v (subst (λ x. Has x v) e p.0))

pub meet_right_empty : (a b : Progression) → b ≡ empty → IsExactly (IsInBoth a b) b
meet_right_empty a b e = exactly_empty (IsInBoth a b) b e (λ v p. not_in_empty v (subst (λ x. Has x v) e p.1))
