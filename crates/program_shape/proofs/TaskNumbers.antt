-- Tasks and their numbers.
use Rattle.std.proofs.Common.{◌≡◌, inl, inr, refl, sym, ℕ, zero, suc, ◌<◌, arith}
use native.Mathlib.Decide.{ℕ_discrete}
use Rattle.tm_soundness.specs.Numbered.{TaskOf}
use Rattle.program_shape.specs.Shape.{number_of}

pub number_below : (n : ℕ) (i : TaskOf n) → number_of n i < n
number_below zero i = absurd i
number_below (suc zero) i = omega arith
number_below (suc (suc n)) (inl u) = omega arith
number_below (suc (suc n)) (inr i) = let h = number_below (suc n) i in omega (arith, h)

pub one_number : (n : ℕ) (i j : TaskOf n) → number_of n i ≡ number_of n j → i ≡ j
one_number zero i j e = absurd i
one_number (suc zero) i j e = refl
one_number (suc (suc n)) (inl u) (inl w) e = refl
one_number (suc (suc n)) (inl u) (inr j) e = absurd (let h = number_below (suc n) j in omega (arith, h, e))
one_number (suc (suc n)) (inr i) (inl u) e = absurd (let h = number_below (suc n) i in omega (arith, h, e))
one_number (suc (suc n)) (inr i) (inr j) e = λ k. inr (one_number (suc n) i j e k)

-- the task with a number
pub record IsNumbered (n k : ℕ) : Type 0 where
  pub task : TaskOf n
  pub is : number_of n task ≡ k

pub task_with : (n k : ℕ) → k < n → IsNumbered n k
task_with zero k lt = absurd (omega (arith, lt))
task_with (suc zero) k lt = record { task = tt; is = omega (arith, lt) }
task_with (suc (suc n)) k lt = by_last (ℕ_discrete k (suc n)) (λ lt'. task_with (suc n) k lt')
  where
    by_last : Dec (k ≡ suc n) → (k < suc n → IsNumbered (suc n) k) → IsNumbered (suc (suc n)) k
    by_last (yes e) rest = record { task = inl tt; is = sym e }
    by_last (no d) rest =
        let h : IsNumbered (suc n) k = rest (omega (arith, lt, d)) in
        record { task = inr h.task; is = h.is }
