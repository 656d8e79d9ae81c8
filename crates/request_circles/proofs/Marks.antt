-- Marks that are set and taken back, and how many there are.
use Rattle.std.proofs.Common.{◌≡◌, ◌⊎◌, ℕ, zero, suc, ◌+◌, ◌<◌, ◌≤◌, refl, sym, subst, ◌∙◌, inl, inr, Bool, true, false}
use Rattle.std.proofs.Common.{List, [], ◌∷◌, length, get_or, set, arith, get_or-set_other, get_or-set_same}
use Rattle.std.specs.Prelude.{◌↔◌, not, replicate, IsTrue}
use Rattle.std.proofs.lemmas.Bool.{cases_eq, cases_Bool}
use Rattle.request_circles.specs.reading.Steps.{IsMarked}
use Rattle.request_circles.specs.reading.Trims.{marked}

pub marked_within : (marks : List Bool) (k : ℕ) → IsMarked marks k → k < length marks
marked_within [] k m = absurd cc
marked_within (b ∷ marks) zero m = omega arith
marked_within (b ∷ marks) (suc k) m = let lt = marked_within marks k m in omega (arith, lt)

-- a mark that is set
pub set_here : (marks : List Bool) (i : ℕ) → i < length marks → IsMarked (set marks i true) i
set_here marks i lt = get_or-set_same marks i true false lt

pub set_kept : (marks : List Bool) (i k : ℕ) → IsMarked marks k → IsMarked (set marks i true) k
set_kept marks i k m = elim (cases_eq k i) [
  | inl e ↦ subst (λ n. IsMarked (set marks i true) n) (sym e)
      (set_here marks i (subst (λ n. n < length marks) e (marked_within marks k m)))
  | inr n ↦ get_or-set_other marks i k true false n ∙ m
]

pub set_only : (marks : List Bool) (i k : ℕ) → IsMarked (set marks i true) k → IsMarked marks k ⊎ (k ≡ i)
set_only marks i k m = elim (cases_eq k i) [
  | inl e ↦ inr e
  | inr n ↦ inl (sym (get_or-set_other marks i k true false n) ∙ m)
]

-- a mark that is taken back
pub dropped_other : (marks : List Bool) (i k : ℕ) → (k ≡ i → ⊥) → IsMarked marks k → IsMarked (set marks i false) k
dropped_other marks i k n m = get_or-set_other marks i k false false n ∙ m

pub count_set : (marks : List Bool) (i : ℕ) → i < length marks → get_or marks i false ≡ false
    → marked (set marks i true) ≡ marked marks + 1
count_set [] i lt e = absurd (omega (arith, lt))
count_set (true ∷ marks) zero lt e = absurd cc
count_set (false ∷ marks) zero lt e = omega arith
count_set (true ∷ marks) (suc i) lt e =
    let h = count_set marks i (let z : i < length marks = omega (arith, lt) in z) e in omega (arith, h)
count_set (false ∷ marks) (suc i) lt e = count_set marks i (let z : i < length marks = omega (arith, lt) in z) e

pub count_dropped : (marks : List Bool) (i : ℕ) → IsMarked marks i → marked (set marks i false) + 1 ≡ marked marks
count_dropped [] i m = absurd cc
count_dropped (true ∷ marks) zero m = omega arith
count_dropped (false ∷ marks) zero m = absurd cc
count_dropped (true ∷ marks) (suc i) m = let h = count_dropped marks i m in omega (arith, h)
count_dropped (false ∷ marks) (suc i) m = count_dropped marks i m

pub count_most : (marks : List Bool) → marked marks ≤ length marks
count_most [] = omega arith
count_most (true ∷ marks) = let h = count_most marks in omega (arith, h)
count_most (false ∷ marks) = let h = count_most marks in omega (arith, h)

none_marked : (n k : ℕ) → IsMarked (replicate n false) k → ⊥
none_marked zero k m = absurd cc
none_marked (suc n) zero m = absurd cc
none_marked (suc n) (suc k) m = none_marked n k m

pub unmarked : (n : ℕ) (marks : List Bool) → marks ≡ replicate n false → (k : ℕ) → IsMarked marks k → ⊥
unmarked n marks e k m = none_marked n k (subst (λ ms. IsMarked ms k) e m)

all_marked : (n k : ℕ) → k < n → IsMarked (replicate n true) k
all_marked zero k lt = absurd (omega (arith, lt))
all_marked (suc n) zero lt = refl
all_marked (suc n) (suc k) lt = all_marked n k (omega (arith, lt))

pub filled_marks : (n : ℕ) (marks : List Bool) → marks ≡ replicate n true → (k : ℕ) → k < n → IsMarked marks k
filled_marks n marks e k lt = subst (λ ms. IsMarked ms k) (sym e) (all_marked n k lt)

pub not_marked : (b : Bool) (marks : List Bool) (k : ℕ) → IsTrue b ↔ IsMarked marks k → b ≡ false
    → get_or marks k false ≡ false
not_marked b marks k same e = elim (cases_Bool (get_or marks k false)) [
  | inl m ↦ absurd (let t : b ≡ true = same.1 m in let clash : false ≡ true = sym e ∙ t in cc)
  | inr n ↦ n
]

pub no_more : (b : Bool) → not b ≡ true → b ≡ true → ⊥
no_more true e h = cc
no_more false e h = cc
