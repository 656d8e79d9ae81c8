-- Divisors of natural numbers, and linear equations modulo a number.
use Rattle.std.proofs.Common.{◌≡◌, ℕ, ◌+◌, ◌-◌, ◌*◌, ◌/◌, ◌%◌, ◌≤◌, ◌<◌, ◌⊎◌, inl, inr, sym, ap, ap₂, ◌∙◌, arith, mul-le-mul_left, le_of_mul-le-mul_right}
use Rattle.std.proofs.lemmas.Bool.{cases_lt}
use Rattle.strided_dom.specs.reading.Equations.{IsLeastFactor, HasNoFactor}

-- one step of the search: a solution for a and m gives one for m % a and a
module _ (a q r s c₀ : ℕ) (some : 0 < c₀) where
  step_down : (t k : ℕ) → a * t ≡ (a * q + r) * k + (a * s + c₀) → (w : ℕ) × ((t ≡ q * k + s + w + 1) × (r * k + c₀ ≡ a * w + a))
  step_down t k e = by (cases_lt (q * k + s) t)
    where
      by : (q * k + s < t) ⊎ (t ≤ q * k + s) → (w : ℕ) × ((t ≡ q * k + s + w + 1) × (r * k + c₀ ≡ a * w + a))
      by (inl p) =
          let w = t - (q * k + s + 1) in
          let t_is : t ≡ q * k + s + w + 1 = omega arith in
          (w, (t_is, (let e' : a * (q * k + s + w + 1) ≡ (a * q + r) * k + (a * s + c₀) = ap (λ x. a * x) (sym t_is) ∙ e in omega arith)))
      by (inr p) = absurd (omega (arith, mul-le-mul_left a p))

  step_up : (k w : ℕ) → r * k + c₀ ≡ a * w + a → a * (q * k + s + w + 1) ≡ (a * q + r) * k + (a * s + c₀)
  step_up k w e = omega arith

pub no_solution_step : (a c m : ℕ) → 0 < a → 0 < c % a → HasNoFactor (m % a) (a - c % a) a → HasNoFactor a c m
no_solution_step a c m pos some none t k e =
    let d = step_down a (m / a) (m % a) (c / a) (c % a) some t k (e ∙ ap₂ (λ x y. x * k + y) m_is c_is) in
    none k d.0 (omega (arith, d.1.1, mod_lt))
  where
    m_is : m ≡ a * (m / a) + m % a
    m_is = omega arith

    c_is : c ≡ a * (c / a) + c % a
    c_is = omega arith

    mod_lt : c % a < a
    mod_lt = omega arith

pub solution_step : (a c m k w : ℕ) → 0 < a → 0 < c % a → IsLeastFactor (m % a) (a - c % a) a k w → IsLeastFactor a c m (m / a * k + c / a + w + 1) k
solution_step a c m k w pos some h = record {
  solves = step_up a (m / a) (m % a) (c / a) (c % a) some k w (omega (arith, h.solves, mod_lt)) ∙ sym (ap₂ (λ x y. x * k + y) m_is c_is);
  least = λ t' k' e. least t' k' (step_down a (m / a) (m % a) (c / a) (c % a) some t' k' (e ∙ ap₂ (λ x y. x * k' + y) m_is c_is));
}
  where
    m_is : m ≡ a * (m / a) + m % a
    m_is = omega arith

    c_is : c ≡ a * (c / a) + c % a
    c_is = omega arith

    mod_lt : c % a < a
    mod_lt = omega arith

    least : (t' k' : ℕ) → (w' : ℕ) × ((t' ≡ m / a * k' + c / a + w' + 1) × (m % a * k' + c % a ≡ a * w' + a)) → m / a * k + c / a + w + 1 ≤ t'
    least t' k' d =
        let k_le : k ≤ k' = h.least k' d.0 (omega (arith, d.1.1, mod_lt)) in
        let w_le : w * a ≤ d.0 * a = omega (arith, mul-le-mul_left (m % a) k_le, h.solves, d.1.1, mod_lt) in
        let w_le' : w ≤ d.0 = le_of_mul-le-mul_right {k = a} w_le pos in
        omega (arith, mul-le-mul_left (m / a) k_le, d.1.0)

pub solution_below : (a c m t k : ℕ) → a * t ≡ m * k + c → k < a → c < m → t < m
solution_below a c m t k e k_below c_below = by (cases_lt t m)
  where
    by : (t < m) ⊎ (m ≤ t) → t < m
    by (inl p) = p
    by (inr p) = absurd (omega (arith, mul-le-mul_left a p, mul-le-mul_left m k_below))

pub solution_whole : (a c m : ℕ) → 0 < a → c % a ≡ 0 → IsLeastFactor a c m (c / a) 0
solution_whole a c m pos e = record {
  solves = omega arith;
  least = λ t' k' e'. le_of_mul-le-mul_right {k = a} (omega (arith, e')) pos;
}

pub solution_step_below : (a c m k w : ℕ) → 0 < a → 0 < c % a → c < m → k < a → IsLeastFactor (m % a) (a - c % a) a k w → m / a * k + c / a + w + 1 < m
solution_step_below a c m k w pos some c_below k_below h =
    solution_below a c m (m / a * k + c / a + w + 1) k (solution_step a c m k w pos some h).solves k_below c_below
